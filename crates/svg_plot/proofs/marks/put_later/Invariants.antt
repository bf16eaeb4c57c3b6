use Rattle.std.proofs.Common.{◌≡◌, ◌++◌, ◌+◌, drop}
use Rattle.rx_value.specs.Plot.{spaced_from}
use Rattle.svg_plot.specs.inner.Seen.{seen_frame}
use Rattle.svg_plot.proofs.marks.put_later.Given as goal

-- what was written and what is to come are the whole
abbrev pub invariant-loop-behind : goal.invariant-loop-behind
invariant-loop-behind l =
    l.text ++ spaced_from (seen_frame l.frame) (l.behind + 1) (drop l.behind l.later)
    ≡ l.fn.text ++ spaced_from (seen_frame l.frame) 1 l.later
