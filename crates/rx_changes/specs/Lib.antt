pub mod Phases
pub mod Found
pub mod Below
pub mod Owned
pub mod ChangesView
pub mod StepView
