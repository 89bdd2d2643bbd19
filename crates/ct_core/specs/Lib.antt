pub mod Cited
pub mod Trimmed
pub mod Core
pub mod Sweep
pub mod Inputs
