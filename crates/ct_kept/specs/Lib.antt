pub mod Lemmas
pub mod Kept
pub mod Names
pub mod Taken
pub mod Chosen
