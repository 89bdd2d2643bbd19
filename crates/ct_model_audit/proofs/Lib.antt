mod TextLemmas
mod TruthLemmas
