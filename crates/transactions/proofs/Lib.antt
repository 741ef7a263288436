pub mod OwnLemmas
pub mod ReadLemmas
pub mod StandLemmas
