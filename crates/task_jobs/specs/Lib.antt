pub mod DoneJob
pub mod FitsApp
pub mod inner
