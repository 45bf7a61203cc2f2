pub mod IdentityView
pub mod Found
pub mod Dense
