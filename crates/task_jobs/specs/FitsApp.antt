-- Which jobs are jobs of an app.
use Rattle.std.specs.Prelude.{◌≡◌, ℕ, filter, length, Option, Some, slice_get}
use Rattle.app_tree.specs.Tree.{Node, task, Shape}
use Rattle.app_tree.specs.Numbering.{is_task}
use Rattle.task_board.specs.declared.job.Job.{Job}

-- a task of so many parameters
abbrev pub IsTaskOf : ℕ → Option Node → Type 0
IsTaskOf count (Some (task name parameters body)) = count ≡ length parameters
IsTaskOf count _ = ⊥

-- the task is one of the app's, and there are as many arguments as it has parameters
abbrev pub FitsApp : Shape → Job → Type 0
FitsApp app job = IsTaskOf (length job.args) (slice_get (filter is_task app.items) job.task)
