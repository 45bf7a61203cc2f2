pub mod Costing
pub mod Hooks
pub mod Once
pub mod Going
pub mod Unwinding
