mod StageLemmas
mod RootLemmas
mod BackLemmas
mod GrowLemmas
mod CloseLemmas
mod BaseLemmas
