pub mod Count
pub mod Date
pub mod DateParts
pub mod OverLine
pub mod OverReading
