pub mod ChunkLemmas
pub mod OrderLemmas
mod MarkLemmas
pub mod PartLemmas
pub mod GrowthLemmas
pub mod WalkLemmas
pub mod TreeLemmas
pub mod LeafLemmas
pub mod StoreLemmas
pub mod CoverLemmas
pub mod MoreLemmas
pub mod RangeLemmas
