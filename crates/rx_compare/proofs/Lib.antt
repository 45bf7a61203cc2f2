pub mod Places
pub mod Comparing
pub mod Hiding
pub mod InPlace
pub mod InPlaceLists
