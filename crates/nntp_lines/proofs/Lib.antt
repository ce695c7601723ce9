pub mod GroupLaws
pub mod CommandLaws
mod Rows
pub mod StatusLaws
