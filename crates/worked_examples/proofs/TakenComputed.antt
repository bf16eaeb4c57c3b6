-- The lines that are taken today, each case by computing.
use Rattle.std.proofs.Common.{refl}
use Rattle.worked_examples.specs.TakenCases.{LinesThatAreTaken, LineOfAnUnknownInput, LineOfAnotherSession}
use Rattle.worked_examples.proofs.OnLiterals.{files_on_literals}

pub lines_that_are_taken : LinesThatAreTaken
unfolding files_on_literals
lines_that_are_taken = refl

pub line_of_an_unknown_input : LineOfAnUnknownInput
unfolding files_on_literals
line_of_an_unknown_input = refl

pub line_of_another_session : LineOfAnotherSession
unfolding files_on_literals
line_of_another_session = refl
