pub mod Forms
pub mod TermLines
pub mod Gates
pub mod Equalities
pub mod Lines
