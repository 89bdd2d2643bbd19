pub mod ListLemmas
pub mod RowLemmas
pub mod RelabelLemmas
pub mod ClassLemmas
pub mod JoinLemmas
pub mod NoteLemmas
pub mod ParentLemmas
pub mod BeginningLemmas
pub mod SignatureLemmas
mod DigestLemmas
mod PlaceLemmas
mod ChainLemmas
