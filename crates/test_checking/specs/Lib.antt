pub mod Scopes
pub mod Asserted
