pub mod Plained
pub mod Stands
pub mod Doing
pub mod Taking
