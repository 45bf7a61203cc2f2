pub mod Decimals
pub mod Valid
pub mod Taken
pub mod Spelled
