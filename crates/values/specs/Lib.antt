pub mod Best
pub mod Entry
pub mod Laws
