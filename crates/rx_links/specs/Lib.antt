pub mod Drafts
pub mod Readers
pub mod Marks
pub mod Places
pub mod Stands
pub mod View
