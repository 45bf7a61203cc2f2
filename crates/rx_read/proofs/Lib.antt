pub mod Links
pub mod Listing
pub mod Trims
pub mod Growing
pub mod Fibering
pub mod Relisted
pub mod Numbered
