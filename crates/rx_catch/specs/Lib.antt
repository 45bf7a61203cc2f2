pub mod Catching
pub mod Nearest
