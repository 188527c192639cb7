pub mod Settings
pub mod Played
