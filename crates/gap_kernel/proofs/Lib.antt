mod Marks
mod Places
pub mod Spellings
mod Blocks
