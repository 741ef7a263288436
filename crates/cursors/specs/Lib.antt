pub mod Sources
pub mod Marks
pub mod Cursors
pub mod Pairs
pub mod Starts
