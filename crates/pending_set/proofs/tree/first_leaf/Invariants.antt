use Rattle.std.proofs.Common.{◌-◌, ◌≤◌}
use Rattle.pending_set.specs.Tree.{IsFirst}
use Rattle.pending_set.proofs.tree.first_leaf.Given as goal

abbrev pub invariant-loop-level : goal.invariant-loop-level
invariant-loop-level l = (l.level ≤ l.height) × IsFirst l.nodes l.level l.node

abbrev pub decreases-loop-level : goal.decreases-loop-level
decreases-loop-level l = l.height - l.level
