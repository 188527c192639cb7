pub mod Players
pub mod Side
pub mod Position
pub mod Setup
pub mod Single
pub mod Made
pub mod Moves
