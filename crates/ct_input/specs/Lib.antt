pub mod Fresh
pub mod Held
pub mod Parts
pub mod Slot
pub mod Source
