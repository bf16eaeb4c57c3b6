use Rattle.std.proofs.Common.{◌≡◌, ◌≤◌, ◌++◌, drop, length}
use Rattle.rx_value.specs.declared.limits.TheConstants.{LIST_LIMIT}
use Rattle.rx_value.specs.Functions.{all_numbers}
use Rattle.rx_value.proofs.numbers.all_numbers.Given as goal

abbrev pub invariant-loop-value : goal.invariant-loop-value
invariant-loop-value l = record {
  joined : l.list ++ all_numbers (drop l.value-index l.values) ≡ all_numbers l.values;
  short : length l.list ≤ LIST_LIMIT;
}
