pub mod TextLaws
pub mod Existing
