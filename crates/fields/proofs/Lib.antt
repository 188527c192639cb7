pub mod Turns
pub mod Counts
pub mod Settings
pub mod Once
