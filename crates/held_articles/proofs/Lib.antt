pub mod Ids
pub mod OctetCounts
pub mod Places
pub mod Presence
