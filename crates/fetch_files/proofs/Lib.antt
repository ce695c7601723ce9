pub mod Told
pub mod Written
mod Rows
pub mod Edits
pub mod Pieces
pub mod Final
