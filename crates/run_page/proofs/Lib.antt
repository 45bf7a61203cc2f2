pub mod Names
pub mod Puts
pub mod Telling
pub mod Adding
