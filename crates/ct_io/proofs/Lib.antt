pub mod Prefixes
pub mod Offsets
pub mod Files
