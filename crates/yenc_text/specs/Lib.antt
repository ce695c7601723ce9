pub use Rattle.yenc_bytes.specs.WriterLines
pub use Rattle.yenc_body.specs.Canonical
pub mod Text
