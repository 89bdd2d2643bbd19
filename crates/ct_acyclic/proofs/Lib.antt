pub mod ListLemmas
pub mod RowLemmas
pub mod ClassLemmas
pub mod CycleLemmas
pub mod KeptLemmas
pub mod NoCycleLemmas
