pub mod BodySteps
pub mod CheckLemmas
pub mod DecodeSteps
pub mod EndLaws
pub mod IndexSteps
pub mod InGrammar
pub mod LoginLemmas
pub mod PartLemmas
pub mod PostSteps
pub mod ReplyLemmas
mod Rows
pub mod SaidSteps
pub mod WritingLemmas
