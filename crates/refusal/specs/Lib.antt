-- What a reader has to believe of the refusals: their numbers.
pub mod Refusals
