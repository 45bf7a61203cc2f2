pub mod FirstFaults
pub mod One
pub mod BadScripts
pub mod Parts
