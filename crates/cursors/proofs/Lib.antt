mod OrderLemmas
mod ReadLemmas
mod KindLemmas
mod StepLemmas
mod SourceLemmas
mod LookLemmas
mod PairLemmas
mod StartLemmas
