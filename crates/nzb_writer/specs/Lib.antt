pub mod Canonical
pub mod Markup
pub mod Nzb
