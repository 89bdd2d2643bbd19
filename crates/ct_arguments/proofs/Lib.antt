pub mod Judgement
pub mod CommandLemmas
pub mod NumberLemmas
pub mod TaskLemmas
