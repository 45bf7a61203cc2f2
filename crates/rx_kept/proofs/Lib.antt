pub mod HookCounts
pub mod Paths
pub mod AttributesOnce
pub mod NumbersGrow
pub mod Resources
pub mod ResolvedSince
pub mod TurnReached
pub mod Choosing
