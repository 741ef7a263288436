pub mod FileState
pub mod Folder
