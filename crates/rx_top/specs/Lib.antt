pub mod Codes
pub mod Outcome
pub mod Reports
pub mod Running
