pub mod SetText
pub mod Builders
pub mod Packs
pub mod Reading
pub mod laws
