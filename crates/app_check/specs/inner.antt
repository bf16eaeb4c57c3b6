-- The vocabulary of inner functions and of proofs: no contract of a public item cites it.
pub mod Tables
pub mod ByName
pub mod Indexed
pub mod Bound
pub mod Spots
pub mod Resolving
pub mod Joined
