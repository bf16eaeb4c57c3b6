-- Transcripts, each case by computing.
use Rattle.std.proofs.Common.{refl}
use Rattle.worked_examples.specs.LineCases.{EmptyTranscript, ClosedSession, MessageAfterTheEnd, LineWithoutAForm, EndOfAnUnknownTask}
use Rattle.worked_examples.proofs.OnLiterals.{files_on_literals}

pub empty_transcript : EmptyTranscript
unfolding files_on_literals
empty_transcript = refl

pub closed_session : ClosedSession
unfolding files_on_literals
closed_session = refl

pub message_after_the_end : MessageAfterTheEnd
unfolding files_on_literals
message_after_the_end = refl

pub line_without_a_form : LineWithoutAForm
unfolding files_on_literals
line_without_a_form = refl

pub end_of_an_unknown_task : EndOfAnUnknownTask
unfolding files_on_literals
end_of_an_unknown_task = refl
