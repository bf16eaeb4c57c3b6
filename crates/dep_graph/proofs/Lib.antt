pub mod Same
pub mod Marking
