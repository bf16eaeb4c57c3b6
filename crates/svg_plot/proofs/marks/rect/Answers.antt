use Rattle.std.proofs.Common.{rules, append_assoc}
use Rattle.rx_value.specs.Plot.{rect}
use Rattle.svg_plot.proofs.marks.rect.Goals as goal

pub returns : goal.returns
unfolding rect
returns c = search (rules, append_assoc)
