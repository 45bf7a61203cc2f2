pub mod Tables
pub mod Gather
pub mod Reach
pub mod Following
pub mod Steps
pub mod Waits
