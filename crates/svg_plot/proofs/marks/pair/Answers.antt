use Rattle.std.proofs.Common.{rules, append_assoc}
use Rattle.rx_value.specs.Plot.{pair}
use Rattle.svg_plot.proofs.marks.pair.Goals as goal

pub returns : goal.returns
unfolding pair
returns c = search (rules, append_assoc)
