pub mod Moves
pub mod Saturated
pub mod Verdict
pub mod Progress
pub mod Theorems
pub mod Opening
pub mod Keeping
