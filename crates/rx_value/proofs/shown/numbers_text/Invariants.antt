use Rattle.std.proofs.Common.{◌≡◌, ◌++◌, drop}
use Rattle.rx_value.specs.Show.{spaced_numbers, numbers_text}
use Rattle.rx_value.proofs.shown.numbers_text.Given as goal

-- what was written and what is to come are the whole text
abbrev pub invariant-loop-number : goal.invariant-loop-number
invariant-loop-number l = l.text ++ spaced_numbers (drop l.number-index l.later) ≡ numbers_text l.numbers
