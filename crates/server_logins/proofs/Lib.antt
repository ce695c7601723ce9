pub mod CutLaws
pub mod LineLaws
pub mod LoginLaws
mod Rows
pub mod ServerLaws
pub mod WordTests
