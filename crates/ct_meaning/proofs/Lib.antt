pub mod MeaningFacts
pub mod FactLemmas
pub mod MeaningSorted
pub mod MeaningAgrees
pub mod MeaningReach
pub mod CompiledOperators
pub mod CompiledMeaning
pub mod TreeSortLemmas
mod QuantifierMeaning
