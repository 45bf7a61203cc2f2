pub mod Versions
pub mod Names
pub mod Bounds
pub mod Keys
pub mod Reads
