pub mod HiddenWaits
pub mod WaitsAgain
pub mod Quiet
pub mod Each
pub mod Idle
