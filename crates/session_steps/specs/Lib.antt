pub mod Keeping
pub mod Bringing
pub mod Acting
pub mod StandLaws
pub mod BodyLaws
pub mod Determined
