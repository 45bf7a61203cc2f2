pub mod Kept
pub mod Stands
pub mod Store
pub mod Seen
