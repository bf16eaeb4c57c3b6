use Rattle.pending_set.specs.Ranking.{AreRanked}
use Rattle.pending_set.proofs.order.ranks.Given as goal

abbrev pub invariant-loop-place : goal.invariant-loop-place
invariant-loop-place l = AreRanked l.order l.ranks.items l.place
