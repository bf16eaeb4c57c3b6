pub mod Keyed
pub mod Leaves
pub mod Asks
