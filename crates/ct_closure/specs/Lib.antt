pub mod Closed
pub mod ClosedTable
pub mod Variables
pub mod Steps
pub mod Trees
pub mod Further
