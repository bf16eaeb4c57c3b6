use Rattle.std.proofs.Common.{◌≡◌, ◌++◌, drop}
use Rattle.rx_value.specs.Plot.{circles_from}
use Rattle.svg_plot.specs.inner.Seen.{seen_frame}
use Rattle.svg_plot.proofs.marks.put_circles.Given as goal

-- what was written and what is to come are the whole
abbrev pub invariant-loop-place : goal.invariant-loop-place
invariant-loop-place l =
    l.text ++ circles_from (seen_frame l.frame) l.place (drop l.place l.numbers)
    ≡ l.fn.text ++ circles_from (seen_frame l.frame) 0 l.numbers
