pub mod Related
pub mod Commits
pub mod Siblings
