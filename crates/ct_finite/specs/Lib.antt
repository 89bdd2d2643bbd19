pub mod ClosedFormula
pub mod Counts
pub mod Counting
pub mod Entries
pub mod Choosing
