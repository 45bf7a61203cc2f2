pub mod Listed
pub mod Once
pub mod Passing
pub mod Walks
