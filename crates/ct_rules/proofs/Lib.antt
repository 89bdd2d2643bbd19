pub mod FollowsLemmas
pub mod DerivationLemmas
