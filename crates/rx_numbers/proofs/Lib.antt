pub mod Rising
pub mod Fronts
pub mod Ends
pub mod Fixed
