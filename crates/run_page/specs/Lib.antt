pub mod Views
pub mod Facts
pub mod Marks
pub mod Sections
pub mod Told
pub mod Books
pub mod Frames
