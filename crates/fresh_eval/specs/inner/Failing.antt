-- The first failure among keys.
use Rattle.std.specs.Prelude.{[], Option, Some, None, Result, Ok, Err}
use Rattle.rx_value.specs.declared.value.Value.{Value}
use Rattle.rx_value.specs.declared.outcome.Outcome.{Outcome}
use Rattle.rx_value.specs.declared.outcome.Outcome.TheVariants.{Val}
use Rattle.app_tree.specs.Tree.{Trees, no_trees, tree}
use Rattle.app_tree.specs.Evaluate.{Answers, outcome_of}

-- the value of an outcome, or the outcome that is none
abbrev pub value_in : Outcome → Result Value Outcome
value_in (Val x) = Ok x
value_in failure = Err failure

abbrev pub failure_or : Result Value Outcome → Option Outcome → Option Outcome
failure_or (Ok x) later = later
failure_or (Err failure) later = Some failure

abbrev pub first_failure : Trees → Answers → Option Outcome
first_failure no_trees answers = None
first_failure (tree key more) answers = failure_or (value_in (outcome_of key answers [])) (first_failure more answers)
