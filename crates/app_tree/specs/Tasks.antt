-- What the body of a task comes to.
use Rattle.std.specs.Prelude.{ℕ, List, filter, Option, Some, None, slice_get}
use Rattle.rx_value.specs.declared.value.Value.{Value}
use Rattle.rx_value.specs.declared.outcome.Outcome.{Outcome}
use Rattle.rx_value.specs.declared.outcome.Outcome.TheVariants.{Stop}
use Rattle.app_tree.specs.Tree.{Node, task, Shape}
use Rattle.app_tree.specs.Numbering.{is_task}
use Rattle.app_tree.specs.Evaluate.{Answers, outcome_of}

-- a task reads nothing but its parameters
abbrev pub nothing_read : Answers
nothing_read = record { read = λ r. Stop; site = λ site. None }

abbrev pub body_outcome : Option Node → List Value → Outcome
body_outcome (Some (task name parameters body)) args = outcome_of body nothing_read args
body_outcome _ args = Stop

-- the outcome of the body of task t, numbered from 0 among the tasks, on these arguments
abbrev pub task_outcome : Shape → ℕ → List Value → Outcome
task_outcome app t args = body_outcome (slice_get (filter is_task app.items) t) args
