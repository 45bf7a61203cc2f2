mod Lists
pub mod Parts
mod Sorting
mod Finding
mod Behind
mod Joining
mod InPlace
