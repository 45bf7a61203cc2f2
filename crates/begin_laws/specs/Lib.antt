pub mod Mounting
pub mod Telling
pub mod Flagged
