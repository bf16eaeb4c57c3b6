use Rattle.taken_cycle.proofs.Counted.{CountedBefore}
use Rattle.taken_cycle.proofs.sizes.outputs_before.Given as goal

abbrev pub invariant-loop-item : goal.invariant-loop-item
invariant-loop-item l = CountedBefore l.items l.reader l.left l.count l.item-index
