pub mod Verdicts
pub mod Ends
pub mod Following
pub mod Turning
pub mod Steps
pub mod Knowing
