pub mod NameList
pub mod Words
pub mod Errors
pub mod Storage
