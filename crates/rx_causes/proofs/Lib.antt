pub mod Marks
pub mod Walks
pub mod Still
pub mod Causes
pub mod Free
pub mod Halves
