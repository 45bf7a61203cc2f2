pub mod Ways
pub mod Leads
pub mod Walk
pub mod WaySets
