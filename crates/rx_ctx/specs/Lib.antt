pub mod Contexts
pub mod Hidden
