use Rattle.pending_set.specs.Ranking.{AreEntries}
use Rattle.pending_set.proofs.order.entries.Given as goal

abbrev pub invariant-loop-number : goal.invariant-loop-number
invariant-loop-number l = AreEntries l.priorities l.number l.entries.items
