pub mod Frames
pub mod Freeing
pub mod Adopting
pub mod Climbing
pub mod Walks
pub mod Marking
