pub mod HostView
pub mod Tables
pub mod Attrs
pub mod Each
pub mod Beside
pub mod Among
