pub mod Theorems
pub mod Effect
pub mod Forms
pub mod Made
pub mod Following
pub mod Pairing
pub mod Chosen
