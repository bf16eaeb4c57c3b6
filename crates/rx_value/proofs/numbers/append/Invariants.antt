use Rattle.std.proofs.Common.{◌≡◌, ◌++◌, drop}
use Rattle.rx_value.proofs.numbers.append.Given as goal

-- what was put and what is to come are all of it
abbrev pub invariant-loop-number : goal.invariant-loop-number
invariant-loop-number l = l.list ++ drop l.number-index l.numbers ≡ l.initial.list ++ l.numbers
