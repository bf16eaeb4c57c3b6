use Rattle.std.proofs.Common.{◌≡◌, ◌-◌, ◌^◌, ◌<◌, ◌≤◌}
use Rattle.pending_set.proofs.tree.measured.Given as goal

abbrev pub invariant-loop-width : goal.invariant-loop-width
invariant-loop-width l = (l.width ≡ 2 ^ l.height) × (l.width ≤ 2 ^ 33) × (1 ≤ l.width) × (l.height < l.width)

abbrev pub decreases-loop-width : goal.decreases-loop-width
decreases-loop-width l = l.count - l.width
