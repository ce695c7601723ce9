pub mod Causes
pub mod Input
pub mod Links
pub mod Sink
pub mod Store
pub mod Trace
