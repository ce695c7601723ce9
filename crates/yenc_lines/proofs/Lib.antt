pub mod BeginLaws
pub mod GatherLaws
pub mod HeaderLaws
pub mod HeaderNames
pub mod ItemLaws
pub mod KindLaws
pub mod PartReads
pub mod ReadLaws
pub mod ReaderLaws
mod Rows
pub mod SmallNumbers
pub mod SpacedItems
pub mod TrimLaws
pub mod WrittenItems
pub mod WrittenLines
