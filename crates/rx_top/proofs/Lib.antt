pub mod Stretches
pub mod Reported
pub mod Due
pub mod Summed
pub mod Sizes
pub mod OneLine
pub mod Verified
