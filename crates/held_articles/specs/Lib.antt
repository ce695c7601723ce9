pub mod Articles
pub mod ById
pub mod Fields
pub mod Octets
