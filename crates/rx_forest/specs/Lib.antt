pub mod Hosts
pub mod HostOps
pub mod Forests
