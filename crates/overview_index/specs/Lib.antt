pub mod Asking
pub mod Draft
pub mod Group
pub mod Grouper
pub mod Session
