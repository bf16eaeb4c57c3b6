-- The vocabulary of inner functions and of proofs: no contract of a public item cites it.
pub mod Passed
pub mod PassTexts
pub mod TakenJson
pub mod Targets
