pub mod Seeing
pub mod PlaceView
pub mod Texts
pub mod Giving
pub mod Evaluated
