pub mod Reached
pub mod Places
