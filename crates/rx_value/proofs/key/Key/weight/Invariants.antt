use Rattle.std.proofs.Common.{◌≡◌, ◌+◌, take, sum_by}
use Rattle.rx_value.specs.Weight.{saturated_weight, value_weight}
use Rattle.rx_value.proofs.key.Key.weight.Given as goal

abbrev pub invariant-loop-part : goal.invariant-loop-part
invariant-loop-part l = l.total ≡ saturated_weight (4 + sum_by value_weight (take l.part-index l.part-items))
