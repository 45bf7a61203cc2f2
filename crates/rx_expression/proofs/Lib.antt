pub mod Exits
pub mod Lines
pub mod Texts
pub mod Turns
