pub mod Appending
pub mod EscapedText
pub mod ValidTexts
