pub mod Rooted
pub mod Stands
pub mod Turning
pub mod Taking
pub mod Paying
pub mod Seen
