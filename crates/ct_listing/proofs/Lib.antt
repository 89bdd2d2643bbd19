pub mod ListLemmas
pub mod ChoiceLemmas
pub mod StageLemmas
mod StableLemmas
mod FieldLemmas
pub mod DifferentLemmas
mod EveryLemmas
pub mod ExactLemmas
mod ClosedLemmas
pub mod LastingLemmas
