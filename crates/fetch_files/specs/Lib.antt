pub mod Calls
pub mod Names
pub mod Filled
pub mod Laws
