pub mod NameLemmas
pub mod StorageLemmas
pub mod ChainLemmas
pub mod DistinctLemmas
