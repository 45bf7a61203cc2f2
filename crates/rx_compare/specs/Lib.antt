pub mod ComparedView
pub mod Matched
pub mod Hidden
pub mod InPlace
pub mod Pairs
