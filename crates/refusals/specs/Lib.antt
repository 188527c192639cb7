pub mod Numbers
pub mod Fields
pub mod Order
pub mod Closed
pub mod Texts
