-- The jobs of a session's tasks that are to be run.
use Rattle.std.specs.Prelude.{◌≡◌, ◌≢◌, ◌⊎◌, ◌≤◌, ℕ, List, [], ◌∷◌, map, Option, Some, None, nat_eq, slice_get}
use Rattle.std.specs.List.{IsDistinct}
use Rattle.app_tree.specs.Tree.{Shape}
use Rattle.app_tree.specs.Trace.{Every}
use Rattle.app_tree.specs.View.{shape_of}
use Rattle.task_board.specs.declared.job.Invocation.{Invocation}
use Rattle.task_board.specs.declared.job.Job.{Job}
use Rattle.task_board.specs.Board.{TaskBoard, board_at}
use Rattle.task_jobs.specs.DoneJob.{DoneJob}
use Rattle.task_jobs.specs.FitsApp.{FitsApp}

-- an invocation of one of the app's tasks, with as many arguments as that has parameters; it is no later than the task's last
-- one, and where it is the one that runs it has its arguments
pub record IsStarted (app : Shape) (boards : List TaskBoard) (job : Job) : Type 0 where
  pub fits : FitsApp app job
  pub number : job.number ≤ (board_at boards job.task).last_number
  pub args : (running : Invocation) → (board_at boards job.task).running ≡ Some running → running.number ≡ job.number
      → running.args ≡ job.args

-- ---- what an event starts

abbrev pub invocation_of : Job → Invocation
invocation_of job = record { number = job.number; args = job.args }

abbrev pub job_of : ℕ → Invocation → Job
job_of task running = record { task = task; number = running.number; args = running.args }

-- the task runs this invocation, and it was not the one that ran before
pub record IsNewlyRunning (old new : List TaskBoard) (job : Job) : Type 0 where
  pub runs : (board_at new job.task).running ≡ Some (invocation_of job)
  pub later : (running : Invocation) → (board_at old job.task).running ≡ Some running → running.number ≢ job.number

-- these jobs are those of the invocations that run now and did not before, each once
pub record Starts (old new : List TaskBoard) (started : List Job) : Type 0 where
  pub each : Every (IsNewlyRunning old new) started
  pub once : IsDistinct nat_eq (map (λ job. job.task) started)
  pub all : (task : ℕ) (running : Invocation) → (board_at new task).running ≡ Some running
      → ((board_at old task).running ≡ Some running) ⊎ ((place : ℕ) × (slice_get started place ≡ Some (job_of task running)))

-- ---- what ends

-- what was run is the invocation that runs, and it was run for this app
pub record IsOfRunning (app : Shape) (boards : List TaskBoard) (done : DoneJob) : Type 0 where
  pub app_is : shape_of done.app ≡ app
  pub runs : (board_at boards done.task).running ≡ Some (record { number = done.number; args = done.args })

-- ---- what is given out

-- the oldest is given out, and it is a job of the app; none exactly where there is none
abbrev pub IsNextJob : Shape → List TaskBoard → List Job → List Job → Option Job → Type 0
IsNextJob app boards old new (Some job) = (old ≡ job ∷ new) × IsStarted app boards job
IsNextJob app boards old new None = (old ≡ []) × (new ≡ [])
