pub mod Committed
pub mod Shown
