use Rattle.std.proofs.Common.{◌≡◌, ◌-◌, ◌++◌, pos, ◌+ℤ◌}
use Rattle.rx_value.specs.Functions.{numbers_from}
use Rattle.rx_value.proofs.numbers.numbers_from.Given as goal

-- what was put and what is to come are all of them
abbrev pub invariant-loop-step : goal.invariant-loop-step
invariant-loop-step l = l.list ++ numbers_from (l.first +ℤ pos l.step) (l.count - l.step) ≡ numbers_from l.first l.count
