-- Plots, sent as images., each case by computing.
use Rattle.std.proofs.Common.{refl}
use Rattle.worked_examples.specs.PlotCases.{Histogram, PlotOfAText}
use Rattle.worked_examples.proofs.OnLiterals.{files_on_literals}

pub histogram : Histogram
unfolding files_on_literals
histogram = refl

pub plot_of_a_text : PlotOfAText
unfolding files_on_literals
plot_of_a_text = refl
