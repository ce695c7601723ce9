mod Rows
pub mod CheckLaws
pub mod FirstLaws
pub mod Ids
pub mod OnePackets
pub mod OneRuns
pub mod PacketLaws
pub mod Parts
pub mod RunLaws
pub mod SetLaws
pub mod SliceLaws
pub mod Tests
pub mod Zeros
