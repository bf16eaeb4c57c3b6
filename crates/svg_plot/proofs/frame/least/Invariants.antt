use Rattle.std.proofs.Common.{◌≡◌, ◌≤ℤ◌, pos, drop}
use Rattle.std.specs.Int.{int_min}
use Rattle.rx_value.specs.Plot.{least}
use Rattle.svg_plot.proofs.frame.least.Given as goal

-- with the least of the rest it is the least of all
abbrev pub invariant-loop-number : goal.invariant-loop-number
invariant-loop-number l =
    record { bound : l.low ≤ℤ pos 0; whole : int_min l.low (least (drop l.number-index l.numbers)) ≡ least l.numbers }
