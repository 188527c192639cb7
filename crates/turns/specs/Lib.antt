pub mod Roll
pub mod Using
pub mod Runs
pub mod Turns
pub mod Refused
pub mod Checked
