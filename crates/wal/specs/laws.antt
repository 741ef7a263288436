-- Laws of the log of commits, for the crates above. What they speak of stands beside this folder.
pub mod Numbering
pub mod Batches
pub mod Free
pub mod Taken
pub mod MoreTaken
pub mod Gapless
pub mod Stores
pub mod Starts
pub mod Charges
