pub mod Rounds
pub mod Same
pub mod Finishing
