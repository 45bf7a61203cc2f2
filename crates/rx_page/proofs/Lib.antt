pub mod Back
pub mod Nesting
pub mod Pieces
