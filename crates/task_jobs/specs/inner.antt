pub mod NoAnswers
