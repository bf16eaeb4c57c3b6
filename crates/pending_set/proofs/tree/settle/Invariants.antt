use Rattle.std.proofs.Common.{◌≡◌, ℕ, ◌+◌, ◌<◌, ◌≤◌, length}
use Rattle.pending_set.specs.Tree.{node_at, IsTreeBut}
use Rattle.pending_set.proofs.tree.settle.Given as goal

abbrev pub invariant-loop-node : goal.invariant-loop-node
invariant-loop-node l =
    (1 ≤ l.node) × (l.node < l.width + l.width) × (length l.nodes.items ≡ l.width + l.width)
    × IsTreeBut l.node l.width l.nodes.items
    × ((i : ℕ) → l.width ≤ i → node_at l.nodes.items i ≡ node_at l.initial.nodes.items i)

abbrev pub decreases-loop-node : goal.decreases-loop-node
decreases-loop-node l = l.node
