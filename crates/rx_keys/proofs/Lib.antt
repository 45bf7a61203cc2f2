mod Counting
pub mod Distinct
mod Finding
pub mod Matches
pub mod SameKeys
mod Moving
mod ByKey
