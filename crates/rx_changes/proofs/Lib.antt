mod Bare
mod Texts
mod Telling
pub mod Growing
pub mod Logged
pub mod Sums
pub mod Walking
