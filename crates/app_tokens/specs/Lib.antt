pub mod Word
pub mod Symbol
pub mod Tokens
pub mod Scan
pub mod Layout
pub mod Kind
pub mod inner
