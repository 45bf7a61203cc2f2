pub mod Among
pub mod Depths
