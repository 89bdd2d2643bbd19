pub mod EffectLemmas
mod MakeLemmas
pub mod RestLemmas
pub mod WithinLemmas
pub mod OperandLemmas
pub mod OperatorLemmas
mod ChainLemmas
mod PairLemmas
mod ImplyingLemmas
pub mod ChosenLemmas
mod FollowLemmas
pub mod MakesLemmas
pub mod WovenLemmas
pub mod PrefixLemmas
