pub mod BlockLemmas
pub mod LineLemmas
pub mod TakesLemmas
pub mod WriteLemmas
