pub mod Carried
pub mod Unsliced
