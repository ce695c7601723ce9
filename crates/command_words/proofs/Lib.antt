pub mod FetchLemmas
pub mod IndexLemmas
pub mod KeysLemmas
pub mod PostLaws
pub mod PostLemmas
mod Rows
pub mod ServerWordLaws
pub mod ServersLemmas
pub mod WordsLemmas
