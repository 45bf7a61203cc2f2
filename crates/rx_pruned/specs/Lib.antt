pub mod Pruned
pub mod Besides
