-- Sessions that stand for no such state, computed.
use Rattle.std.proofs.Common.{◌≡◌, true, false, refl}
use Rattle.std.proofs.lemmas.Bool.{false≢true}
use Rattle.session_model.specs.StandingExamples.{StateOfAnotherSize, OutputLeftOut, StaleOutput, OneSourceMore, StaleOutcome, RunningThatNeverRan}

pub state_of_another_size : StateOfAnotherSize
state_of_another_size session h = let size = h.consistent.size in cc

pub output_left_out : OutputLeftOut
output_left_out h = h.dependences 0 refl

pub stale_output : StaleOutput
stale_output h = h.dependences 0 refl

pub one_source_more : OneSourceMore
one_source_more h = let same : true ≡ false = h.dependences 0 refl 1 in cc

pub stale_outcome : StaleOutcome
stale_outcome h = let same = h.outcomes 0 _ refl refl refl in cc

pub running_that_never_ran : RunningThatNeverRan
running_that_never_ran h = let ran : false ≡ true = (h.running 1 refl).ran in false≢true ran
