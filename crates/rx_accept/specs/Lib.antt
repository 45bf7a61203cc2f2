pub mod Programs
pub mod Lines
pub mod Judgements
