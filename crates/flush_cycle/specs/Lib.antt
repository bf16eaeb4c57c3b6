pub mod Waits
pub mod Jobs
pub mod Reports
pub mod Flushing
pub mod Working
pub mod Keeping
pub mod inner
