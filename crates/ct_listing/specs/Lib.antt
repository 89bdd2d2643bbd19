pub mod Closed
pub mod Listable
pub mod Listing
