pub mod Present
pub mod LeftOut
pub mod Staying
