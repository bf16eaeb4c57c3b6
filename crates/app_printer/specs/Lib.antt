pub mod Canonical
pub mod Laws
pub mod Example
pub mod inner
