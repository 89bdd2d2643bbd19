pub mod Weight
pub mod CompilableLemmas
pub mod PlainLemmas
pub mod ChoiceLemmas
pub mod BindLemmas
mod StackLemmas
pub mod BindingLemmas
pub mod DefinitionLemmas
pub mod UnderLemmas
pub mod CallingLemmas
pub mod MatchLemmas
mod KnownLemmas
pub mod FormLemmas
pub mod MakingLemmas
pub mod DeferralLemmas
pub mod ChosenLemmas
pub mod ValueLemmas
pub mod AwaitLemmas
