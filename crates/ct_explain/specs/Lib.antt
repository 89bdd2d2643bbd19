pub mod Writing
pub mod Premises
pub mod Pairs
pub mod Explained
pub mod Trees
pub mod Resting
pub mod Growth
