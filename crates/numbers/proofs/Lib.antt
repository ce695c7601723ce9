pub mod DecimalDigits
pub mod NumberDigits
