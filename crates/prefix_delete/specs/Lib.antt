pub mod Prefixes
pub mod Blocks
pub mod Read
