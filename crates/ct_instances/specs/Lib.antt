pub mod Among
pub mod Matching
pub mod Fields
pub mod Left
pub mod Pairs
