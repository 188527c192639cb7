pub mod Runs
pub mod Longest
pub mod Walk
pub mod Faults
