pub mod InMemory
pub mod LinkLog
pub mod Log
pub mod MemFiles
pub mod MemStore
pub mod Script
pub mod ScriptLinks
pub mod Sends
