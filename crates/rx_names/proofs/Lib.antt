pub mod Bytes
pub mod Distinct
pub mod Places
pub mod Texts
