pub mod Store
pub mod Gives
pub mod Rendered
pub mod Changing
pub mod Commits
pub mod Working
pub mod Busy
