pub mod ListLemmas
pub mod WrittenLemmas
pub mod TextLemmas
pub mod NumeralLemmas
pub mod BodyLemmas
pub mod TableLemmas
pub mod ModelLemmas
pub mod PairLemmas
