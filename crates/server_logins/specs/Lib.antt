pub mod Cut
pub mod LoginLine
pub mod Logins
pub mod Server
