use Rattle.std.proofs.Common.{arith}
use Rattle.std.proofs.lemmas.Int.{ints}
use Rattle.svg_plot.proofs.Scale.{int_min-least}
use Rattle.svg_plot.proofs.frame.least.Goals as goal

pub loop-number-init : goal.loop-number-init
loop-number-init c = record { bound = omega (arith, ints); whole = int_min-least c.args.numbers.now }
