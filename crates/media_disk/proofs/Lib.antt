pub mod WriteLemmas
pub mod MomentLemmas
pub mod HalfLemmas
pub mod PlaceLemmas
pub mod ImageLemmas
pub mod ByteLemmas
