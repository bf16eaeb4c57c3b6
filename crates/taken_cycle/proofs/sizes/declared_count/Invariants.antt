use Rattle.taken_cycle.specs.inner.Targets.{is_declared}
use Rattle.taken_cycle.proofs.Counted.{Counted}
use Rattle.taken_cycle.proofs.sizes.declared_count.Given as goal

abbrev pub invariant-loop-item : goal.invariant-loop-item
invariant-loop-item l = Counted is_declared l.items l.count l.item-index
