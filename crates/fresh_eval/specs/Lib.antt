pub mod FirstOutcomes
pub mod FirstOutcomesExamples
pub mod inner
