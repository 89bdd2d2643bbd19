mod GrowthLemmas
mod GateLemmas
mod InputLemmas
mod OrderLemmas
mod StepLemmas
mod ClauseLemmas
mod ExhaustLemmas
mod MakerLemmas
