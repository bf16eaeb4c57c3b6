use Rattle.std.proofs.Common.{◌≡◌, length, subst, arith}
use Rattle.pending_set.specs.Ranking.{AreRanked}
use Rattle.pending_set.proofs.Places.{IsRank-whole}
use Rattle.pending_set.proofs.order.ranks.Goals as goal

pub returns : goal.returns
returns c =
    let order = c.args.order.now in
    let ranks = c.loop-place.ranks.items in
    let end : c.loop-place.place ≡ length order = omega arith in
    IsRank-whole order ranks c.requires.whole (subst (AreRanked order ranks) end c.loop-place.invariant)
