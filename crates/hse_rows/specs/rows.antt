-- Rows of sets, and what jobs make of them.
pub mod Newest
pub mod Meaning
pub mod RowSets
pub mod Packing
pub mod Routing
pub mod Layout
pub mod Job
pub mod Schedule
