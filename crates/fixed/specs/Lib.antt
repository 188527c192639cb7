pub mod Sound
pub mod Stays
pub mod Range
pub mod Kept
