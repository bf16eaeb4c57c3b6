pub mod Covering
pub mod Sizes
pub mod Marks
