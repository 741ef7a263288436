pub mod Txns
pub mod Stages
pub mod Stands
