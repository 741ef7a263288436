-- Laws of regions, for the crates above.
pub mod Spelling
pub mod OneReading
pub mod OneFront
pub mod Ranges
pub mod Regions
