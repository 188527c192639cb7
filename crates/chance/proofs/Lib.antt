pub mod Admitted
pub mod Chosen
pub mod Fractions
pub mod Greatest
pub mod Powers
pub mod Ranges
