pub mod Beside
pub mod FreeFallback
pub mod Falling
pub mod OldFallback
pub mod FallbackKids
pub mod Catching
