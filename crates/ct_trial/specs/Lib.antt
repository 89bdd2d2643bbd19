pub mod Theorems
pub mod Growth
pub mod Trial
pub mod LastModel
