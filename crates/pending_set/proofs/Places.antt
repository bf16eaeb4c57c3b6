-- Where the numbers of an order stand in it.
use Rattle.std.proofs.Common.{◌≡◌, ℕ, ◌+◌, ◌<◌, List, length, slice_index, slice_set, arith, subst}
use Rattle.std.proofs.lemmas.Grind.{common_steps}
use Rattle.std.proofs.lemmas.Bool.Decides.{nat_tests}
use Rattle.pending_set.specs.Ranking.{IsWhole, AreRanked, IsRank}

-- the number at one more place gets its rank
pub AreRanked-set : (order ranks : List ℕ) (place : ℕ) → place < length order → slice_index order place < length ranks → AreRanked order ranks place → AreRanked order (slice_set ranks (slice_index order place) place) (place + 1)
AreRanked-set order ranks place lt inside h = record {
  long = grind (arith, common_steps, h.long);
  below = λ k here. grind (arith, common_steps, nat_tests, h.below k);
  is = λ k here. grind (arith, common_steps, nat_tests, h.is k);
}

pub IsRank-whole : (order ranks : List ℕ) → IsWhole order → AreRanked order ranks (length order) → IsRank order ranks
IsRank-whole order ranks whole h = record {
  long = h.long;
  below = λ n lt. let at = whole.holds n lt in subst (λ (m : ℕ). slice_index ranks m < length order) at.2 (h.below at.0 at.1);
  is = λ n lt. let at = whole.holds n lt in subst (λ (m : ℕ). slice_index order (slice_index ranks m) ≡ m) at.2 (h.is at.0 at.1);
}
