use Rattle.flush_cycle.proofs.FlushGoes.{Goes}
use Rattle.flush_cycle.proofs.work.Work.flush.Given as goal

abbrev pub invariant-loop-run : goal.invariant-loop-run
invariant-loop-run g l = Goes g.A.Asker.follows g.A.Asker.out l.initial.self l.self l.initial.asker l.asker l.initial.steps l.steps l._run
