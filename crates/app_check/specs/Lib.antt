pub mod Text
pub mod Words
pub mod CachedReaders
pub mod Load
pub mod Laws
pub mod Example
pub mod inner
