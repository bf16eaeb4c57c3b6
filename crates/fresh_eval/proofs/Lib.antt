pub mod Evaluations
pub mod Firsts
