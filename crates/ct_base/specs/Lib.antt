pub mod Base
pub mod Cutting
