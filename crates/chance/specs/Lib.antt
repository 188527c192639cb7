pub mod Choose
pub mod Fraction
pub mod Greatest
pub mod Held
pub mod Rules
pub mod Sums
