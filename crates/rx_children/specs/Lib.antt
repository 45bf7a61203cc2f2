pub mod Children
pub mod Clones
pub mod Nodes
pub mod Origins
pub mod PartsView
pub mod Again
pub mod Units
