pub mod Scanning
pub mod Gaps
pub mod Holds
mod SetLaws
mod Edits
mod Ordering
mod Changes
mod SidesLaws
mod Kept
mod Walk
mod Carving
mod Carved
mod Gapped
pub mod Parts
mod EntryRead
