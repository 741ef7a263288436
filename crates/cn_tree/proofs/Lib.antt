pub mod NodeLemmas
pub mod RunLemmas
pub mod FoundLemmas
pub mod LayoutLemmas
pub mod WishLemmas
