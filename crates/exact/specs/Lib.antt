pub mod Sound
pub mod Stays
pub mod Number
pub mod Kept
