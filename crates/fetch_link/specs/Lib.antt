pub mod Bytes
pub mod Shown
pub mod Link
pub mod Takes
pub mod Laws
pub mod Verdict
