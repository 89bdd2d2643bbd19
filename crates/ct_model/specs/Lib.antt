pub mod Listed
pub mod TableText
pub mod ModelText
pub mod PairsText
pub mod Within
pub mod Opening
