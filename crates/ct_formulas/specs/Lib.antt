pub mod Choices
pub mod Formula
pub mod TreeFormula
pub mod FormulaSorts
pub mod Pairs
pub mod Calls
pub mod Compiled
pub mod Occurrence
