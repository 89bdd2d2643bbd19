pub mod Scopes
pub mod Asserted
pub mod Verdicts
