pub mod Framed
pub mod Gates
pub mod Places
pub mod Answers
pub mod Crashes
pub mod Reading
pub mod laws
