pub mod UpLemmas
pub mod TrailLemmas
pub mod StatusLemmas
pub mod AnalysisLemmas
pub mod ClauseLemmas
pub mod SearchLemmas
pub mod VariableLemmas
mod WatchLemmas
mod VisitLemmas
mod AttachLemmas
mod PropagateLemmas
mod WatchingLemmas
mod CursorLemmas
