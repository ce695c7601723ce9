pub mod ArticleLaws
pub mod ArticlesThere
pub mod BodyLines
pub mod DeskLemmas
pub mod IndexLaws
pub mod MadeLaws
pub mod PlanLaws
pub mod PostingSteps
mod Rows
pub mod RunLemmas
pub mod SaidLemmas
mod SessionRows
pub mod SessionSteps
pub mod ShortText
pub mod StopLemmas
pub mod WireLemmas
