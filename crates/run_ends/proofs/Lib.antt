pub mod ReadBack
pub mod WordsBack
