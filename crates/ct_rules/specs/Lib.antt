pub mod Rules
pub mod Uniqueness
pub mod Cycle
pub mod Derivation
