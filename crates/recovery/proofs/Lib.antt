pub mod KeepsLemmas
pub mod GapLemmas
pub mod OneLoading
pub mod NotBoth
pub mod Each
pub mod OneRefusal
pub mod OneVersion
mod FormatLemmas
mod NewLemmas
mod StopLemmas
mod TextLemmas
pub mod LayerLemmas
pub mod ViewLemmas
pub mod NamedLemmas
