use Rattle.app_tree.specs.View.{shape_of}
use Rattle.taken_cycle.specs.State.{state_of}
use Rattle.taken_cycle.proofs.Applying.{Applying}
use Rattle.taken_cycle.proofs.apply.apply_pairs.Given as goal

abbrev pub invariant-loop-pair : goal.invariant-loop-pair
invariant-loop-pair l = Applying (shape_of l.app) l.pairs (state_of l.initial.values.items l.initial.readers.items) l.values.items l.readers.items l.pair-index
