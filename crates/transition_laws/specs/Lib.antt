pub mod Transitions
pub mod Flags
pub mod Laws
