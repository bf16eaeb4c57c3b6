-- What the body of a task would be answered, which reads nothing.
use Rattle.std.specs.Prelude.{Some, None}
use Rattle.rx_value.specs.declared.outcome.Outcome.TheVariants.{Stop}
use Rattle.app_tree.specs.Wanted.{Answering}

-- nothing is wanted, and each isolated site is evaluated
abbrev pub no_answers : Answering
no_answers = record { read = λ r. Some Stop; site = λ site. None }
