pub mod ByWays
pub mod Table
pub mod Ranking
pub mod Finding
pub mod Both
