pub mod Committed
pub mod Lines
pub mod Beside
