pub mod HeadLemmas
pub mod AssertedLemmas
pub mod ScopeLemmas
pub mod ThereLemmas
