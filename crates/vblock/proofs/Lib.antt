pub mod TextLemmas
pub mod ReadingLoop
pub mod OpeningLemmas
pub mod FindingLoop
mod PlaceLemmas
