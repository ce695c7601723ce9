pub mod Asked
pub mod CommandLine
pub mod Fetch
pub mod Index
pub mod Keys
pub mod Post
pub mod PostValues
pub mod Servers
