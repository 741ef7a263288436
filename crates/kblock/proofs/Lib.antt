pub mod PuttingLemmas
pub mod BuildingLemmas
pub mod ReadingLoops
pub mod OpeningLemmas
pub mod KeyLemmas
pub mod SearchLemmas
pub mod NthLemmas
pub mod AgainLemmas
pub mod TakesLemmas
mod PlaceLemmas
mod WalkLemmas
