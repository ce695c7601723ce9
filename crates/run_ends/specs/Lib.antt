pub mod Line
pub mod Lined
pub mod Printed
pub mod Reading
pub mod Status
