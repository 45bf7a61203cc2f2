pub mod StepTexts
pub mod Shown
pub mod Taken
pub mod Pages
pub mod Views
