pub mod Defaults
pub mod Going
pub mod Olds
pub mod Listing
pub mod SameTexts
pub mod Shapes
pub mod OneList
pub mod Evaluating
