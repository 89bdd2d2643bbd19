pub mod Rejection
