pub mod Events
pub mod Growth
pub mod Turns
pub mod Sessions
pub mod Written
