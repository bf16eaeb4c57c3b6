use Rattle.std.proofs.Common.{rules, append_assoc}
use Rattle.rx_value.specs.Plot.{circle}
use Rattle.svg_plot.proofs.marks.circle.Goals as goal

pub returns : goal.returns
unfolding circle
returns c = search (rules, append_assoc)
