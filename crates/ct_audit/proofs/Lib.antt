mod GrowLemmas
pub mod JudgeLemmas
mod TextLemmas
mod TheoremLemmas
