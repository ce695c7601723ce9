pub use Rattle.yenc_body.specs.Body
pub use Rattle.yenc_body.specs.FirstFault
pub use Rattle.lists.specs.Text
pub mod Standing
pub mod DataPlaces
