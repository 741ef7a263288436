-- Laws of the manifest, for the crates above.
pub mod OneManifest
pub mod Fronts
pub mod Again
pub mod Sizes
