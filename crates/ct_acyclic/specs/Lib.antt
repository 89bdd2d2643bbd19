pub mod Order
pub mod Edges
