-- Laws of what values say, for the crates above.
pub mod Counted
pub mod Charged
