-- The vocabulary of inner functions and of proofs: no contract of a public item cites it.
pub mod Sending
pub mod Applying
pub mod Answering
