pub mod Drawn
pub mod Cursors
pub mod Made
