pub mod Edit
pub mod Lines
pub mod Text
