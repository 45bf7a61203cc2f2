pub mod Causes
pub mod Mem
pub mod Standard
pub mod Whole
