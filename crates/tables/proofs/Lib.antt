pub mod Reducing
pub mod Reading
pub mod Summing
pub mod Leading
pub mod Visiting
pub mod Linked
pub mod Entering
pub mod Losing
