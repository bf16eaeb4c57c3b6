-- The vocabulary of inner functions and of proofs: no contract of a public item cites it.
pub mod Storing
pub mod Trail
pub mod Reading
pub mod Tries
pub mod Making
pub mod Terms
