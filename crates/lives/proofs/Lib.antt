pub mod StoryLemmas
pub mod MarkLemmas
pub mod ServeLemmas
pub mod EndLemmas
pub mod WholeLemmas
pub mod CloseLemmas
pub mod ReopenLemmas
