-- The vocabulary of inner functions and of proofs: no contract of a public item cites it.
pub mod Roles
pub mod Parts
pub mod Statements
pub mod Acting
pub mod Observing
pub mod Targets
pub mod Applying
pub mod Passing
pub mod Telling
pub mod Marking
pub mod Tasking
