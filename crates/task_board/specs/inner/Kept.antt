-- What holds of every task.
use Rattle.std.specs.Prelude.{◌≡◌, ◌≤◌, [], length, None}
use Rattle.task_board.specs.declared.limits.TheConstants.{QUEUE_LIMIT}
use Rattle.task_board.specs.declared.state.TaskState.TheInside.{Inside}

-- at most 1,000 wait, and where none runs, none waits
pub record IsKept (a : Inside) : Type 0 where
  pub few : length a.queued.items ≤ QUEUE_LIMIT
  pub quiet : a.running ≡ None → a.queued.items ≡ []
