use Rattle.std.proofs.Common.{drop}
use Rattle.flush_cycle.proofs.MarkedWait.{Adding}
use Rattle.flush_cycle.proofs.starting.add_marked.Given as goal

abbrev pub invariant-loop-n : goal.invariant-loop-n
invariant-loop-n l = Adding l.outputs (drop l.n-index l.marked) l.marked l.fn.pending l.pending
