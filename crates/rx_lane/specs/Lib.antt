pub mod Lanes
pub mod SetLaws
pub mod LaneBits
pub mod BitLaws
