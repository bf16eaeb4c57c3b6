-- What a session's work is with its tasks' boards changed, or with one more job.
use Rattle.std.specs.Prelude.{◌≡◌, ℕ, List, [], ◌∷◌, ◌++◌, slice_set}
use Rattle.rx_value.specs.declared.value.Value.{Value}
use Rattle.task_board.specs.declared.job.Job.{Job}
use Rattle.task_board.specs.Board.{TaskBoard, board_at, invocation_result, end_result}
use Rattle.flush_cycle.specs.Working.{Working}

abbrev pub with_boards : List TaskBoard → Working → Working
with_boards boards w = record w { kept = record w.kept { boards = boards } }

-- the newest job stands last
abbrev pub with_job : Job → Working → Working
with_job job w = record w { jobs = w.jobs ++ job ∷ [] }

-- the board of a task is as an invocation leaves it, and all else as it was
abbrev pub IsInvoked : Working → ℕ → List Value → Working → Type 0
IsInvoked old task args new =
    new ≡ with_boards (slice_set old.kept.boards task (invocation_result task args (board_at old.kept.boards task)).board) old

-- as the end of the invocation of this number leaves it
abbrev pub IsEnded : Working → ℕ → ℕ → Working → Type 0
IsEnded old task number new =
    new ≡ with_boards (slice_set old.kept.boards task (end_result task number (board_at old.kept.boards task)).board) old
