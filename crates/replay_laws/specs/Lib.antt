pub mod Attributes
pub mod Committed
