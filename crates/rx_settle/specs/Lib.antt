pub mod Settling
pub mod Made
pub mod Passes
pub mod Found
