pub mod Scenes
pub mod Marks
pub mod Hidden
pub mod Idle
pub mod Reads
