-- What outputs come to and what is counted, each case by computing.
use Rattle.std.proofs.Common.{refl}
use Rattle.worked_examples.specs.OutcomeCases.{FreshOutputs, GreatNumbers, DrawnBars, DrawnLinesAndPoints, PlotsThatFail, CountedWaits, BodiesOfAnExpression, CountedItems, MessageThatIsTooLong, ItemThatIsNoText, GeneratedReplay}
use Rattle.worked_examples.proofs.OnLiterals.{files_on_literals}

pub fresh_outputs : FreshOutputs
unfolding files_on_literals
fresh_outputs = refl

pub great_numbers : GreatNumbers
unfolding files_on_literals
great_numbers = refl

pub drawn_bars : DrawnBars
unfolding files_on_literals
drawn_bars = refl

pub drawn_lines_and_points : DrawnLinesAndPoints
unfolding files_on_literals
drawn_lines_and_points = refl

pub plots_that_fail : PlotsThatFail
unfolding files_on_literals
plots_that_fail = refl

pub counted_waits : CountedWaits
unfolding files_on_literals
counted_waits = refl

pub bodies_of_an_expression : BodiesOfAnExpression
unfolding files_on_literals
bodies_of_an_expression = refl

pub counted_items : CountedItems
unfolding files_on_literals
counted_items = refl

pub message_that_is_too_long : MessageThatIsTooLong
unfolding files_on_literals
message_that_is_too_long = refl

pub item_that_is_no_text : ItemThatIsNoText
unfolding files_on_literals
item_that_is_no_text = refl

pub generated_replay : GeneratedReplay
unfolding files_on_literals
generated_replay = refl
