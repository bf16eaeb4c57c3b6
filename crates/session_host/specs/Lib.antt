pub mod Journaling
pub mod Hosting
pub mod Keeping
pub mod Turning
pub mod Opening
pub mod inner
