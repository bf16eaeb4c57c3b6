use Rattle.app_tree.specs.View.{shape_of}
use Rattle.taken_cycle.proofs.Going.{Going}
use Rattle.taken_cycle.proofs.flushing.flush.Given as goal

abbrev pub invariant-loop-waiting : goal.invariant-loop-waiting
invariant-loop-waiting l = Going (shape_of l.app) l.values l.fn.readers.items l.readers.items l.left l.outputs l.place l.number

abbrev pub decreases-loop-waiting : goal.decreases-loop-waiting
decreases-loop-waiting l = l.left
