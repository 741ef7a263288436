-- Transactions and their timeline.
pub mod Transaction
pub mod Conflict
pub mod Moves
pub mod Timeline
pub mod Isolation
pub mod Sources
