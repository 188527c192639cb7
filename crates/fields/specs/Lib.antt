pub mod Exact
pub mod Digits
pub mod Moves
pub mod Sides
