pub mod Apart
pub mod Nothing
