pub mod Deadlines
pub mod Links
pub mod Waiting
pub mod WaitingLaws
pub mod Schedule
pub mod Events
