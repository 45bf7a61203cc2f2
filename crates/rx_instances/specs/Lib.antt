pub mod Nearest
pub mod NearFibers
pub mod MountedFibers
pub mod CountedFibers
pub mod AwaitedFibers
