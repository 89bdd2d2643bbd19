pub mod Callees
pub mod GenericTerms
pub mod Heads
pub mod Trees
pub mod Expected
pub mod Binders
pub mod Quantifiers
