pub mod Server
pub mod Values
pub mod Client
pub mod Told
pub mod inner
