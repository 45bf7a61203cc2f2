pub mod Texts
pub mod Top
