pub mod FaultLemmas
pub mod SlotLemmas
pub mod PieceLemmas
pub mod SourceLemmas
pub mod PartLemmas
