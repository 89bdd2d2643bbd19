mod Each
mod NestingLemmas
