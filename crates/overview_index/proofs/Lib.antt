pub mod AddedLines
pub mod Answered
pub mod AskingSteps
pub mod Drafts
pub mod Files
pub mod Finished
pub mod IndexLaws
pub mod Keys
pub mod Lines
pub mod Once
pub mod Ranges
pub mod Rows
mod SessionRows
pub mod SessionSteps
pub mod Validity
