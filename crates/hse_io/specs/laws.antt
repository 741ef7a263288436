-- What holds of the definitions, for proofs of crates above.
pub mod Lines
