-- Laws of the superblock, for the crates above.
pub mod Superblocks
