pub mod Listing
pub mod Order
pub mod Showing
pub mod Laws
pub mod Collecting
