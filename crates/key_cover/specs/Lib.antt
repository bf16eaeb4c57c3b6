pub mod Met
pub mod MetLaws
pub mod MetExamples
pub mod inner
