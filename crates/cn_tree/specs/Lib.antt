pub mod Path
pub mod Tree
pub mod Runs
pub mod Found
pub mod Schedule
pub mod Layouts
pub mod Wishes
