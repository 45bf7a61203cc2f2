mod Lists
mod Counting
pub mod Waiting
mod Mounting
mod Nothing
mod SameInstances
mod Among
