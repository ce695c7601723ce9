pub mod FlatLines
pub mod OnePlace
pub mod TextLines
