pub mod Initial
pub mod Growth
