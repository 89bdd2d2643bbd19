pub mod Command
pub mod Items
pub mod Forms
pub mod Labels
pub mod Tables
pub mod OptionForms
pub mod Reading
pub mod Seen
