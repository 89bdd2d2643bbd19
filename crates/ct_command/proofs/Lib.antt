pub mod Rows
pub mod EachLemmas
pub mod WordLemmas
