pub use Rattle.crc_field.specs.Hex
pub mod Gathered
pub mod KeywordText
pub mod Keywords
pub mod Name
pub mod WrittenLines
