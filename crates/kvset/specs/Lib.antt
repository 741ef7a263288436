pub mod Keys
pub mod Rows
pub mod Parts
pub mod Reading
pub mod Meeting
