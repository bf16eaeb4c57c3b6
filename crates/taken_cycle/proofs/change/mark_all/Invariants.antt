use Rattle.session_model.specs.Change.{marked_reader}
use Rattle.taken_cycle.proofs.Replaced.{Replaced}
use Rattle.taken_cycle.proofs.change.mark_all.Given as goal

abbrev pub invariant-loop-reader : goal.invariant-loop-reader
invariant-loop-reader l = Replaced (marked_reader l.source) l.initial.reader-items l.reader-items l.reader-index
