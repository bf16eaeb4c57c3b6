pub mod DrawnOut
pub mod LeavesGivenUp
pub mod TermsWithin
