pub mod Bests
pub mod Means
pub mod Parts
pub mod Powers
