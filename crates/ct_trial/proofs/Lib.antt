mod SameLemmas
mod RowLemmas
mod GraphLemmas
mod FollowLemmas
mod TrialLemmas
mod LastModelLemmas
mod SameCopyLemmas
