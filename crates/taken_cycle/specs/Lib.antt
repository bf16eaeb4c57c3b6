pub mod State
pub mod Built
pub mod Flushing
pub mod inner
