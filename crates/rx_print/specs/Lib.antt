pub mod Printing
pub mod Levels
pub mod Tags
