-- What holds of the parts of a session's work.
use Rattle.std.specs.Prelude.{◌≡◌, ◌≤◌, ℕ, List, map, filter, length, Some, slice_get}
use Rattle.rx_value.specs.declared.value.Value.{Value}
use Rattle.app_tree.specs.Held.{Held}
use Rattle.app_tree.specs.Tree.{Shape}
use Rattle.app_tree.specs.Numbering.{SourceNumbers, readers, is_task, starting_values, numbers_of}
use Rattle.app_tree.specs.Trace.{Every}
use Rattle.app_tree.specs.View.{shape_of}
use Rattle.app_laws.specs.Proper.{IsProper}
use Rattle.dep_graph.specs.MarkedReaders.{MarkedReaders}
use Rattle.pending_set.specs.Waiting.{Waiting}
use Rattle.react_session.specs.Keeping.{Keeping}
use Rattle.session_model.specs.Flush.{priority_of}
use Rattle.session_model.specs.Tasks.{first_task}
use Rattle.task_board.specs.declared.job.Invocation.{Invocation}
use Rattle.task_board.specs.declared.job.Job.{Job}
use Rattle.task_board.specs.Board.{TaskBoard, board_at}
use Rattle.task_jobs.specs.FitsApp.{IsTaskOf}
use Rattle.flush_cycle.specs.Jobs.{IsStarted}
use Rattle.flush_cycle.specs.declared.output.OutputState.{OutputState}
use Rattle.flush_cycle.specs.inner.Roles.{role_of}

abbrev pub HasArguments : Shape → ℕ → List Value → Type 0
HasArguments app task args = IsTaskOf (length args) (slice_get (filter is_task app.items) task)

-- the invocation that runs is the last one, and it and those that wait have as many arguments as the task has parameters
pub record IsBoardOf (app : Shape) (task : ℕ) (board : TaskBoard) : Type 0 where
  pub last : (running : Invocation) → board.running ≡ Some running → running.number ≡ board.last_number
  pub args : (running : Invocation) → board.running ≡ Some running → HasArguments app task running.args
  pub queued : Every (HasArguments app task) board.queued

pub record IsHeld (held : Held) (numbers : SourceNumbers) (first : ℕ) (session : Keeping) (outputs : List OutputState) (boards : List TaskBoard) (pending : Waiting)
    (marked : MarkedReaders) (jobs : List Job) : Type 0 where
  pub proper : IsProper (shape_of held)
  pub numbers_are : numbers ≡ numbers_of (shape_of held)
  pub first_is : first ≡ first_task (shape_of held)
  pub app : session.app ≡ held
  pub sources : length session.session.values ≡ length (starting_values (shape_of held).items)
  pub contexts : length session.session.readers ≡ length (readers (shape_of held))
  pub roles : map (λ o. o.role) outputs ≡ map role_of (readers (shape_of held))
  pub priorities : pending.priorities ≡ map priority_of (readers (shape_of held))
  pub waits : length pending.waits ≡ length (readers (shape_of held))
  pub room : length (readers (shape_of held)) ≤ marked.room
  pub tasks : length boards ≡ length (filter is_task (shape_of held).items)
  pub boards_fit : (task : ℕ) → IsBoardOf (shape_of held) task (board_at boards task)
  pub jobs_fit : Every (IsStarted (shape_of held) boards) jobs
