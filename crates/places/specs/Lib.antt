pub mod Ways
pub mod Asked
pub mod Inverse
