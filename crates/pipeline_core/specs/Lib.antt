pub mod LinkAt
pub mod SegmentAt
pub mod Links
pub mod PipelineAt
pub mod Searches
pub mod Pipeline
pub mod Sound
pub mod Awaited
