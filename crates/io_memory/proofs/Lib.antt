pub mod FileLaws
pub mod Lives
pub mod NamedFiles
pub mod ScriptLaws
