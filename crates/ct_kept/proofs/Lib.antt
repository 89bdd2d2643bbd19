mod ChosenLemmas
mod TermLemmas
mod AcceptedLemmas
mod MovedLemmas
mod TakenLemmas
mod NamingLemmas
mod CutLemmas
mod WithinLemmas
