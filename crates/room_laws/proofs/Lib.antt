pub mod Fitted
pub mod Steps
pub mod Counts
pub mod Law
pub mod Sizes
pub mod Made
