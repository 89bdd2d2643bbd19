pub mod PlaceLemmas
pub mod VerdictLemmas
pub mod DraftLemmas
