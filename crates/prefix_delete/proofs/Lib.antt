pub mod CoverLemmas
pub mod EntryLemmas
pub mod ReadingLoop
pub mod RisingLemmas
pub mod FillingLemmas
