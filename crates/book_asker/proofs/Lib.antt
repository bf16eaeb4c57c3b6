pub mod InFlight
pub mod Kept
