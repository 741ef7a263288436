pub mod Layouts
pub mod Superblock
pub mod Answers
pub mod laws
