pub mod Places
pub mod First
pub mod Steps
pub mod Merge
pub mod Deletes
