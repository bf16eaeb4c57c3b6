use Rattle.std.proofs.Common.{◌≡◌, ◌≤ℤ◌, pos, drop}
use Rattle.std.specs.Int.{int_max}
use Rattle.rx_value.specs.Plot.{greatest}
use Rattle.svg_plot.proofs.frame.greatest.Given as goal

-- with the greatest of the rest it is the greatest of all
abbrev pub invariant-loop-number : goal.invariant-loop-number
invariant-loop-number l =
    record {
      bound : pos 0 ≤ℤ l.high;
      whole : int_max l.high (greatest (drop l.number-index l.numbers)) ≡ greatest l.numbers;
    }
