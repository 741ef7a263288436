-- Laws of devices, for the crates above.
pub mod Calls
pub mod Images
pub mod Leaves
pub mod Moments
