pub mod Shapes
pub mod Reads
pub mod Changes
pub mod Links
pub mod Freed
pub mod Adopted
pub mod Ways
pub mod Marks
