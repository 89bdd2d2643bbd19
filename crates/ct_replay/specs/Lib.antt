pub mod Found
pub mod Turn
pub mod One
