pub mod ListLemmas
pub mod KeyLemmas
pub mod PartLemmas
pub mod RowLemmas
pub mod OpeningLemmas
pub mod MeetingLemmas
pub mod SetLemmas
