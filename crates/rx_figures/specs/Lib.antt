pub mod Costs
pub mod Figures
