pub mod Jsx
pub mod Parts
