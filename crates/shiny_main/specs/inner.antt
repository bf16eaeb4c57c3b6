-- The vocabulary of inner functions and of proofs: no contract of a public item cites it.
pub mod Pieces
pub mod Spoken
pub mod Lines
pub mod Replaying
pub mod Fronts
