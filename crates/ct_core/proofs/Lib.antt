pub mod SweepLemmas
pub mod NameLemmas
pub mod RenumberLemmas
pub mod CopyLemmas
pub mod InputLemmas
pub mod CoreLemmas
