pub mod Sources
pub mod Step
pub mod Lookup
pub mod Merging
pub mod Parts
pub mod Next
pub mod Laws
