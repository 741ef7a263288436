-- What holds of the definitions, for proofs.
pub mod Filling
