-- States and histories.
pub mod State
pub mod History
pub mod Rooted
