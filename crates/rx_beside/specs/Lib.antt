pub mod Slots
pub mod Children
pub mod Alike
pub mod Pairs
