pub mod HeadLaws
pub mod MessageIdCore
pub mod OutNameLaws
pub mod PartIdLaws
pub mod Pieces
pub mod QuotedNameLaws
mod Rows
pub mod TextLaws
