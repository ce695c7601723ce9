pub mod CountLaws
pub mod DateLaws
pub mod DayLaws
pub mod Digits
pub mod Fronts
pub mod IdField
pub mod LastCount
pub mod OverFields
pub mod OverLaws
pub mod PartLaws
mod Rows
pub mod WordLaws
