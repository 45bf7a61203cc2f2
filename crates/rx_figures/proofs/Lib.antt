pub mod HeldCounts
pub mod Along
pub mod Rounds
pub mod Figured
pub mod Alone
pub mod Same
pub mod Agree
pub mod Ordered
