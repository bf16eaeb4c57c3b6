use Rattle.std.proofs.Common.{◌≡◌, ◌*◌, ◌^◌, drop, pos, ◌+ℤ◌, neg_ℤ, ◌≤ℤ◌}
use Rattle.rx_value.specs.Functions.{sum_of}
use Rattle.rx_value.proofs.numbers.sum_of.Given as goal

-- each number adds at most 2^63 on either side
abbrev pub invariant-loop-number : goal.invariant-loop-number
invariant-loop-number l = record {
  so_far : l.sum +ℤ sum_of (drop l.number-index l.numbers) ≡ sum_of l.numbers;
  above : neg_ℤ (pos (2 ^ 63 * l.number-index)) ≤ℤ l.sum;
  below : l.sum ≤ℤ pos (2 ^ 63 * l.number-index);
}
