-- Tasks in a session: an invocation, and the end of one.
use Rattle.std.specs.Prelude.{ℕ, ◌+◌, ◌==◌, Bool, false, filter, length, Option, Some, None, slice_set}
use Rattle.rx_value.specs.declared.outcome.Outcome.{Outcome}
use Rattle.rx_value.specs.declared.outcome.Outcome.TheVariants.{Val}
use Rattle.rx_value.specs.declared.source.TaskView.{TaskView}
use Rattle.rx_value.specs.declared.source.TaskView.TheVariants as view
use Rattle.rx_value.specs.declared.source.SourceValue.TheVariants.{Task}
use Rattle.app_tree.specs.Tree.{Shape}
use Rattle.app_tree.specs.Numbering.{is_input, is_value}
use Rattle.app_tree.specs.Tasks.{task_outcome}
use Rattle.task_board.specs.declared.job.Invocation.{Invocation}
use Rattle.task_board.specs.declared.job.Ended.{Ended}
use Rattle.task_board.specs.declared.job.Ended.TheVariants.{Next, Quiet, Stale}
use Rattle.task_board.specs.Board.{TaskBoard, AfterEnd, board_at, end_result, running_number}
use Rattle.session_model.specs.State.{SessionState}
use Rattle.session_model.specs.Change.{change}

-- the source number of the first task; tasks are numbered from 0 among themselves too
abbrev pub first_task : Shape → ℕ
first_task app = length (filter is_input app.items) + length (filter is_value app.items)

abbrev pub with_board : ℕ → TaskBoard → SessionState → SessionState
with_board t board state = record state { boards = slice_set state.boards t board }

-- ---- the end of an invocation

abbrev pub ended_view : Outcome → TaskView
ended_view (Val x) = view.Success x
ended_view outcome = view.Error outcome

abbrev pub see_task : Shape → ℕ → TaskView → SessionState → SessionState
see_task app t seen state = change (first_task app + t) (Task seen) state

-- the task shows what the invocation came to; where another one was waiting, it runs in the same event
abbrev pub with_end_shown : Shape → ℕ → Outcome → AfterEnd → Ended → SessionState → SessionState
with_end_shown app t outcome after Quiet state = with_board t after.board (see_task app t (ended_view outcome) state)
with_end_shown app t outcome after (Next job) state =
    with_board t after.board (see_task app t view.Running (see_task app t (ended_view outcome) state))
with_end_shown app t outcome after (Stale number) state = state

abbrev pub end_running : Shape → ℕ → Option Invocation → SessionState → SessionState
end_running app t None state = state
end_running app t (Some running) state =
    with_end_shown app t
    (task_outcome app t running.args)
    (end_result t running.number (board_at state.boards t))
    (end_result t running.number (board_at state.boards t)).answer
    state

-- the invocation of task t that runs ends
abbrev pub end_task : Shape → ℕ → SessionState → SessionState
end_task app t state = end_running app t (board_at state.boards t).running state

abbrev pub is_number_of : ℕ → Option ℕ → Bool
is_number_of number None = false
is_number_of number (Some running) = running == number

-- whether the invocation of this number of task t runs
abbrev pub is_running : ℕ → ℕ → SessionState → Bool
is_running t number state = is_number_of number (running_number (board_at state.boards t))
