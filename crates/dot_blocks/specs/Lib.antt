pub mod Blocks
pub mod BlockReading
pub mod Heard
pub mod Laws
