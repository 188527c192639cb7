pub mod Cases
pub mod Specimens
