pub use Rattle.yenc_bytes.specs.DataLine
pub mod Landing
pub mod Blocks
