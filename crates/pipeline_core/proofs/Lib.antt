pub mod Searching
pub mod Exclusive
pub mod Free
pub mod Calls
pub mod Full
pub mod Alike
pub mod Placed
pub mod Awaited
mod CallReads
