pub mod Others
pub mod Bodies
pub mod Kids
pub mod Beginning
