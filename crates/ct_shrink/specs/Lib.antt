pub mod Shrunk
pub mod Shrinking
