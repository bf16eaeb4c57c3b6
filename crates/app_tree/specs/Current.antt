-- The current values of a session's sources, and what a read of a source is answered.
use Rattle.std.specs.Prelude.{ℕ, List, slice_get, unwrap_or, codes}
use Rattle.rx_value.specs.declared.value.Value.TheVariants.{Null, Text}
use Rattle.rx_value.specs.declared.outcome.Outcome.{Outcome}
use Rattle.rx_value.specs.declared.outcome.Outcome.TheVariants as o
use Rattle.rx_value.specs.declared.source.TaskView.{TaskView}
use Rattle.rx_value.specs.declared.source.TaskView.TheVariants as view
use Rattle.rx_value.specs.declared.source.SourceValue.{SourceValue}
use Rattle.rx_value.specs.declared.source.SourceValue.TheVariants.{Plain, Task, Frozen}
use Rattle.app_tree.specs.declared.term.Read.{Read}
use Rattle.app_tree.specs.declared.term.Read.TheVariants as read
use Rattle.app_tree.specs.Tree.{Shape}
use Rattle.app_tree.specs.Numbering.{SourceNumbers, numbers_of, width_at, height_at}

-- by source number
abbrev pub CurrentValues : Type 0
CurrentValues = List SourceValue

abbrev pub value_at : CurrentValues → ℕ → SourceValue
value_at values s = unwrap_or (slice_get values s) (Plain Null)

-- a read of an input, a value, a width or a height gives its value, and that of a frozen input stops silently; none of them is a task
abbrev pub plain_outcome : SourceValue → Outcome
plain_outcome (Plain x) = o.Val x
plain_outcome (Frozen x) = o.Stop
plain_outcome (Task view) = o.Stop

abbrev pub status_text : TaskView → List ℕ
status_text view.Initial = codes "initial"
status_text view.Running = codes "running"
status_text (view.Success x) = codes "success"
status_text (view.Error outcome) = codes "error"

abbrev pub status_outcome : SourceValue → Outcome
status_outcome (Task seen) = o.Val (Text (status_text seen))
status_outcome (Plain x) = o.Stop
status_outcome (Frozen x) = o.Stop

-- a task that was never started stops silently, and one that runs tells that it runs
abbrev pub outcome_of_view : TaskView → Outcome
outcome_of_view view.Initial = o.Stop
outcome_of_view view.Running = o.Running
outcome_of_view (view.Success x) = o.Val x
outcome_of_view (view.Error outcome) = outcome

abbrev pub result_outcome : SourceValue → Outcome
result_outcome (Task seen) = outcome_of_view seen
result_outcome (Plain x) = o.Stop
result_outcome (Frozen x) = o.Stop

-- what a read of a source is answered, by where the sizes stand; an expression is no source
abbrev pub told_at : SourceNumbers → CurrentValues → Read → Outcome
told_at numbers values (read.Input s) = plain_outcome (value_at values s)
told_at numbers values (read.Value s) = plain_outcome (value_at values s)
told_at numbers values (read.Status s) = status_outcome (value_at values s)
told_at numbers values (read.Result s) = result_outcome (value_at values s)
told_at numbers values (read.Width n) = plain_outcome (value_at values (width_at numbers n))
told_at numbers values (read.Height n) = plain_outcome (value_at values (height_at numbers n))
told_at numbers values (read.Expr n) = o.Stop

abbrev pub told : Shape → CurrentValues → Read → Outcome
told app values r = told_at (numbers_of app) values r
