pub mod writes
pub mod states
pub mod transactions
pub mod rows
pub mod machine
pub mod script
pub mod laws
