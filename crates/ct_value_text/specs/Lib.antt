pub mod Numeral
pub mod ValueText
pub mod Separation
pub mod Walk
