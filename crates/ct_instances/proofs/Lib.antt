pub mod InstanceLemmas
mod MatchLemmas
pub mod OccurLemmas
pub mod SubstituteLemmas
pub mod CtorNameLemmas
