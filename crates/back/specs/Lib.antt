pub mod Steps
pub mod Home
pub mod Leaving
pub mod Plans
pub mod Events
pub mod Bases
pub mod laws
