pub mod CallLemmas
pub mod QuantifierLemmas
pub mod FormulaSortLemmas
pub mod ScopeLemmas
pub mod OccurrenceLemmas
pub mod OccurringSubterms
pub mod CompiledReach
