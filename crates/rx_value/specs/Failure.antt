-- The failures of operators, functions and plots, with the texts that are shown for them.
use Rattle.std.specs.Prelude.{ℕ, List, codes}
use Rattle.rx_value.specs.declared.outcome.Outcome.{Outcome}
use Rattle.rx_value.specs.declared.outcome.Outcome.TheVariants.{Fail}
use Rattle.rx_value.specs.declared.failure.Failure.{Failure}
use Rattle.rx_value.specs.declared.failure.Failure.TheVariants as f

abbrev pub failure_text : Failure → List ℕ
failure_text f.NumberOutOfRange = codes "number out of range"
failure_text f.DivisionByZero = codes "division by zero"
failure_text f.WrongKind = codes "wrong kind of value"
failure_text f.NotACondition = codes "condition is not true or false"
failure_text f.IndexOutOfRange = codes "index out of range"
failure_text f.ListTooLong = codes "list too long"
failure_text f.TextTooLong = codes "text too long"
failure_text f.PlotSizeOutOfRange = codes "plot size out of range"

-- an outcome that fails with this text
abbrev pub failure_outcome : Failure → Outcome
failure_outcome f = Fail (failure_text f)
