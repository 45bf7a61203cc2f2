pub mod Trimmed
pub mod Places
pub mod Outcomes
