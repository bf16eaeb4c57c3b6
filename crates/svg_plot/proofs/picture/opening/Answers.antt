use Rattle.std.proofs.Common.{rules, append_assoc}
use Rattle.rx_value.specs.Plot.{opening}
use Rattle.svg_plot.proofs.picture.opening.Goals as goal

pub returns : goal.returns
unfolding opening
returns c = search (rules, append_assoc)
