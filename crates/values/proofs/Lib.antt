pub mod Reaching
pub mod Exact
pub mod Bests
pub mod Sums
pub mod Judging
pub mod Entries
