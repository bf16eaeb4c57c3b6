use Rattle.flush_cycle.specs.inner.Acting.{Moved}
use Rattle.flush_cycle.proofs.ThawedBelow.{thawed_below}
use Rattle.flush_cycle.proofs.work.Work.thaw.Given as goal

abbrev pub invariant-loop-source : goal.invariant-loop-source
invariant-loop-source l = Moved (thawed_below l.source) l.initial.self l.self
