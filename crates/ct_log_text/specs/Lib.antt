pub mod Fitting
pub mod Cores
pub mod Named
pub mod Reading
pub mod Written
pub mod Writable
