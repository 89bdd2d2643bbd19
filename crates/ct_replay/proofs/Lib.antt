pub mod ReplayLemmas
mod FirstLemmas
