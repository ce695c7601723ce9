pub mod Field
pub mod Head
pub mod OutName
pub mod PartId
pub mod QuotedName
pub mod Subject
