pub mod Plays
pub mod Forms
pub mod Silence
