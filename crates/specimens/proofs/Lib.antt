pub mod Turns
pub mod Endings
pub mod Shown
