pub mod Leading
pub mod Completed
pub mod Gathering
pub mod Passing
pub mod Depths
pub mod Waiting
pub mod Nearest
pub mod Throwing
