pub mod Entailment
pub mod Steps
pub mod Consulting
pub mod Finite
