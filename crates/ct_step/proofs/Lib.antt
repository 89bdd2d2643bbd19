pub mod EvidenceLemmas
mod AnswerLemmas
mod LogicLemmas
mod CauseLemmas
mod VerdictLemmas
mod CheckLemmas
mod AssumingLemmas
mod CoreLemmas
mod DoneLemmas
pub mod SoundLemmas
mod CutLemmas
mod StoreLemmas
mod CacheLemmas
mod KeptLemmas
mod AskLemmas
pub mod KnownLemmas
mod PrintLemmas
mod RehearsalLemmas
