pub mod Recorded
pub mod AskedLaws
pub mod Orderly
pub mod Statements
pub mod AppLaws
pub mod Proper
pub mod KeyedLaws
pub mod KeyedExamples
