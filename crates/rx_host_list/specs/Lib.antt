pub mod Listed
pub mod Walks
