-- The vocabulary of tests alone.
pub mod PlainAnswering
pub mod ObserverReads
pub mod DrawnLeaves
