pub mod SuperblockLemmas
