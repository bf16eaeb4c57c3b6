use Rattle.std.proofs.Common.{◌≡◌, ◌++◌, drop}
use Rattle.app_printer.specs.Canonical.{more_numbers}
use Rattle.app_printer.proofs.constants.write_more_numbers.Given as goal

abbrev pub invariant-loop-number : goal.invariant-loop-number
invariant-loop-number l = l.out ++ more_numbers (drop l.number-index l.numbers) ≡ l.initial.out ++ more_numbers l.numbers
