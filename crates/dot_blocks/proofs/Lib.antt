pub mod BlockLaws
pub mod LineEnds
pub mod Stuffed
pub mod LineSearch
pub mod Framing
pub mod Reading
pub mod Rows
pub mod FrontBlock
