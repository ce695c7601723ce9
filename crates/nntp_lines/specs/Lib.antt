pub mod Command
pub mod GroupName
pub mod GroupReply
pub mod LoginWord
pub mod MessageId
pub mod StatusLine
pub mod Word
