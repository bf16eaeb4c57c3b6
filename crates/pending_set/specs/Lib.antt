pub mod Waiting
pub mod Ranking
pub mod Kept
pub mod Tree
