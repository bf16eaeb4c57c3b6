use Rattle.app_tree.specs.View.{shape_of}
use Rattle.flush_cycle.proofs.MarkedWait.{FirstWaiting}
use Rattle.flush_cycle.proofs.starting.pending.Given as goal

abbrev pub invariant-loop-n : goal.invariant-loop-n
invariant-loop-n l = FirstWaiting (shape_of l.app) l.n l.pending
