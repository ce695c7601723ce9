pub mod GroupCounts
pub mod Histories
pub mod LineEnds
pub mod LinkLaws
pub mod OneLine
pub mod OverviewLines
pub mod Places
pub mod RangeLaws
mod Rows
pub mod SaidNumbers
pub mod Served
pub mod ShownArticles
pub mod SpacedText
