-- The tasks: which invocation runs, and which wait.
use Rattle.std.specs.Prelude.{ℕ, ◌+◌, ◌==◌, nat_lt, List, [], ◌∷◌, ◌++◌, length, Option, Some, None, option_map, slice_index_or, if◌then◌else◌}
use Rattle.rx_value.specs.declared.value.Value.{Value}
use Rattle.task_board.specs.declared.limits.TheConstants.{QUEUE_LIMIT}
use Rattle.task_board.specs.declared.job.Invocation.{Invocation}
use Rattle.task_board.specs.declared.job.Job.{Job}
use Rattle.task_board.specs.declared.job.Invoked.{Invoked}
use Rattle.task_board.specs.declared.job.Invoked.TheVariants.{Started, Queued, QueueFull}
use Rattle.task_board.specs.declared.job.Ended.{Ended}
use Rattle.task_board.specs.declared.job.Ended.TheVariants.{Next, Quiet, Stale}

-- a task: the number of its last invocation, the one that runs, and the arguments that wait, oldest first
pub record TaskBoard : Type 0 where
  pub last_number : ℕ
  pub running : Option Invocation
  pub queued : List (List Value)

-- never invoked
abbrev pub idle : TaskBoard
idle = record { last_number = 0; running = None; queued = [] }

abbrev pub board_at : List TaskBoard → ℕ → TaskBoard
board_at boards task = slice_index_or boards task idle

-- what an invocation of a task comes to: the answer, and the task's board after it
pub record AfterInvoke : Type 0 where
  pub answer : Invoked
  pub board : TaskBoard

-- what the end of an invocation comes to
pub record AfterEnd : Type 0 where
  pub answer : Ended
  pub board : TaskBoard

-- the next invocation has the number above the last
abbrev pub next_job : ℕ → List Value → TaskBoard → Job
next_job task args board = record { task = task; number = board.last_number + 1; args = args }

-- the next invocation runs, and these wait
abbrev pub with_next : List Value → List (List Value) → TaskBoard → TaskBoard
with_next args queued board =
    record {
      last_number = board.last_number + 1;
      running = Some (record { number = board.last_number + 1; args = args });
      queued = queued;
    }

-- at most 1,000 wait
abbrev pub queue_result : List Value → TaskBoard → AfterInvoke
queue_result args board =
    if nat_lt (length board.queued) QUEUE_LIMIT
    then record { answer = Queued; board = record board { queued = board.queued ++ args ∷ [] } }
    else record { answer = QueueFull; board = board }

abbrev pub invocation_beside : Option Invocation → ℕ → List Value → TaskBoard → AfterInvoke
invocation_beside None task args board =
    record { answer = Started (next_job task args board); board = with_next args board.queued board }
invocation_beside (Some running) task args board = queue_result args board

-- a task that does not run is started, else the arguments wait
abbrev pub invocation_result : ℕ → List Value → TaskBoard → AfterInvoke
invocation_result task args board = invocation_beside board.running task args board

-- the oldest that waits is started
abbrev pub next_result : List (List Value) → ℕ → TaskBoard → AfterEnd
next_result [] task board = record { answer = Quiet; board = record board { running = None } }
next_result (args ∷ later) task board =
    record { answer = Next (next_job task args board); board = with_next args later board }

abbrev pub stale_result : Option ℕ → TaskBoard → AfterEnd
stale_result number board = record { answer = Stale number; board = board }

abbrev pub end_beside : Option Invocation → ℕ → ℕ → TaskBoard → AfterEnd
end_beside None task number board = stale_result None board
end_beside (Some running) task number board =
    if running.number == number then next_result board.queued task board else stale_result (Some running.number) board

-- the invocation of this number ends: another than the running one is stale, and changes nothing
abbrev pub end_result : ℕ → ℕ → TaskBoard → AfterEnd
end_result task number board = end_beside board.running task number board

abbrev pub running_number : TaskBoard → Option ℕ
running_number board = option_map (λ i. i.number) board.running
