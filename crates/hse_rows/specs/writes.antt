-- Changes, writes, and what a commit keeps of them.
pub mod Lengths
pub mod Names
pub mod Refusals
pub mod Change
pub mod Sorted
pub mod NormalForm
pub mod Charge
pub mod Reach
pub mod Overlap
pub mod Sets
