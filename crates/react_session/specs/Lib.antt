pub mod Seen
pub mod Holding
pub mod Keeping
pub mod Marking
pub mod Forcing
pub mod Terms
pub mod inner
