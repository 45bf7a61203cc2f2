pub mod Generated
pub mod Meant
