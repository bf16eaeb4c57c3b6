pub mod Examples
pub mod Scale
pub mod Stopped
pub mod Escapes
