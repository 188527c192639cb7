pub mod Best
pub mod Mean
