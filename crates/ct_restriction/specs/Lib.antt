pub mod Renamed
pub mod Restricted
pub mod Renumbered
