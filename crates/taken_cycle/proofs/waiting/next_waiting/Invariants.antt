use Rattle.std.proofs.Common.{◌-◌, length, map}
use Rattle.app_tree.specs.View.{node_of}
use Rattle.taken_cycle.specs.inner.Passed.{IsPassed}
use Rattle.taken_cycle.proofs.waiting.next_waiting.Given as goal

abbrev pub invariant-loop-place : goal.invariant-loop-place
invariant-loop-place l = IsPassed (map node_of l.items) l.readers l.place l.number

abbrev pub decreases-loop-place : goal.decreases-loop-place
decreases-loop-place l = length l.items - l.place
