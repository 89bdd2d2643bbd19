pub mod AssertedLemmas
pub mod ScopeLemmas
pub mod VerdictLemmas
pub mod ShrinkLemmas
pub mod ThereLemmas
