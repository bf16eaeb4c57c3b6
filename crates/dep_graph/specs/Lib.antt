pub mod Contexts
pub mod Conditions
pub mod SameGraph
pub mod MarkedReaders
pub mod inner
