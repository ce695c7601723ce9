pub mod ReadingOn
pub mod Landed
pub mod InPlace
pub mod TextBytes
pub mod DataReading
pub mod WholeText
