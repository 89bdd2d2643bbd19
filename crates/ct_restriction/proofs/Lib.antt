mod RenamedLemmas
mod MarkLemmas
mod AgreeLemmas
mod CopyLemmas
mod FoundLemmas
mod MadeLemmas
