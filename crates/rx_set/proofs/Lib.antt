pub mod Holding
mod Noting
mod Few
