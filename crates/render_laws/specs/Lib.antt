pub mod InProgress
pub mod SameSight
pub mod Attempts
pub mod TouchedCounts
pub mod OldNodes
