pub mod Entries
pub mod Eviction
pub mod Apart
pub mod Filling
