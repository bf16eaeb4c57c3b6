use Rattle.std.proofs.Common.{◌≡◌, ◌≤◌, ◌++◌, drop, length}
use Rattle.rx_value.specs.declared.limits.TheConstants.{TEXT_LIMIT}
use Rattle.rx_value.specs.Functions.{joined_texts}
use Rattle.rx_value.proofs.spelling.joined_texts.Given as goal

abbrev pub invariant-loop-value : goal.invariant-loop-value
invariant-loop-value l = record {
  joined : l.joined ++ joined_texts (drop l.value-index l.values) ≡ joined_texts l.values;
  short : length l.joined ≤ TEXT_LIMIT;
}
