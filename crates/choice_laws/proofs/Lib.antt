pub mod Texts
pub mod Firsts
pub mod Rising
pub mod Waits
pub mod Bodies
pub mod Taken
pub mod Runs
