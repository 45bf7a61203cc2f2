pub mod Depths
pub mod Children
pub mod Prefixes
