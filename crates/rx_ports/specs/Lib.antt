pub mod Faults
pub mod Files
pub mod Source
pub mod Sink
pub mod Link
pub mod MemoryForms
