mod Stacks
pub mod Others
