pub mod Keeping
pub mod Seeing
pub mod Taking
