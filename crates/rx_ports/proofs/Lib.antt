pub mod Contents
pub mod FileLaws
pub mod FileLemmas
pub mod TakeLemmas
pub mod TapeLemmas
