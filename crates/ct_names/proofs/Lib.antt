mod BoundLemmas
mod StackLemmas
mod RepeatLemmas
pub mod Rows
pub mod PartLemmas
pub mod NestingLemmas
pub mod AnswerLemmas
mod FormLemmas
pub mod SymbolLemmas
pub mod ResolveLemmas
pub mod FoundLemmas
pub mod NeedLemmas
mod PlaceLemmas
mod RefusalLemmas
pub mod WrittenLemmas
pub mod AddLemmas
pub mod OneOutcomeLemmas
mod PlainLemmas
mod NamedLemmas
pub mod LastingLemmas
pub mod StayLemmas
pub mod StayPatterns
pub mod StayListable
pub mod StayTerms
