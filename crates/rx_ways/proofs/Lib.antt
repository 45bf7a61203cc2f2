pub mod Along
pub mod Bits
pub mod Covering
pub mod Leading
pub mod Quiet
pub mod Standing
