-- What the steps of an event leave of a session's work.
use Rattle.std.specs.Prelude.{◌≡◌, ◌≢◌, ◌≤◌, ◌<◌, true, false, ℕ, ◌+◌, ◌*◌, List, [], ◌∷◌, ◌++◌, length, Option, Some, None, Result, Ok, Err, OnOk}
use Rattle.rx_value.specs.declared.memory.Memory.{Memory}
use Rattle.rx_value.specs.declared.outcome.Outcome.{Outcome}
use Rattle.shiny_json.specs.declared.message.Pair.{Pair}
use Rattle.app_tree.specs.Tree.{Shape}
use Rattle.app_tree.specs.Numbering.{readers, reader}
use Rattle.app_tree.specs.View.{shape_of}
use Rattle.session_model.specs.State.{SessionState, with_sources}
use Rattle.session_model.specs.Flush.{is_observer_at, RunResult, failure_of}
use Rattle.session_model.specs.Observing.{StatementsResult}
use Rattle.session_model.specs.Tasks.{end_task}
use Rattle.session_model.specs.Standing.{KeptFlush, StandsWholly, missing_readers}
use Rattle.task_board.specs.declared.job.Job.{Job}
use Rattle.task_board.specs.declared.job.Invocation.{Invocation}
use Rattle.task_board.specs.Board.{TaskBoard, board_at}
use Rattle.pending_set.specs.Waiting.{waits_at}
use Rattle.term_eval.specs.Lent.{Lent}
use Rattle.flush_cycle.specs.Flushing.{Stepped}
use Rattle.flush_cycle.specs.Jobs.{Starts}
use Rattle.flush_cycle.specs.Reports.{made_of}
use Rattle.flush_cycle.specs.Waits.{waits_in}
use Rattle.flush_cycle.specs.declared.report.Made.{Made}
use Rattle.flush_cycle.specs.Working.{Working, IsReady, IsAtRest}

-- ---- conditions

-- the asker is of this app, and none of its Leaves is out
pub record MayAsk (app asked : Shape) (out : List Lent) : Type 0 where
  pub of_app : asked ≡ app
  pub none_out : out ≡ []

-- observer n runs
pub record MayAct (n : ℕ) (w : Working) : Type 0 where
  pub ready : IsReady w
  pub runs : w.kept.session.running ≡ Some n
  pub observer : is_observer_at (reader (shape_of w.app) n) ≡ true

-- ---- steps that run no body

-- it stands for the state after the step, in which no more readers are missing
pub record Follows (app : Shape) (old new : KeptFlush) (state next : SessionState) : Type 0 where
  pub stands : StandsWholly app new next
  pub missing : missing_readers app new.session next ≤ missing_readers app old.session state

abbrev pub Moves : Shape → KeptFlush → KeptFlush → (SessionState → SessionState) → Type 0
Moves app old new step = (state : SessionState) → StandsWholly app old state → Follows app old new state (step state)

pub record Moved (step : SessionState → SessionState) (old new : Working) : Type 0 where
  pub app : new.app ≡ old.app
  pub moves : Moves (shape_of old.app) old.kept new.kept step
  pub ready : IsReady new
  pub running : new.kept.session.running ≡ old.kept.session.running
  pub boards : new.kept.boards ≡ old.kept.boards
  pub jobs : new.jobs ≡ old.jobs
  pub made : new.made ≡ old.made

-- ---- jobs

-- these jobs are of tasks that run now and did not run before, and what ran before runs on
pub record StartsMore (old new : List TaskBoard) (started : List Job) : Type 0 where
  pub starts : Starts old new started
  pub stays : (task : ℕ) (running : Invocation) → (board_at old task).running ≡ Some running
      → (board_at new task).running ≡ Some running

pub record Queues (old new : Working) : Type 0 where
  pub started : List Job
  pub jobs : new.jobs ≡ old.jobs ++ started
  pub starts : StartsMore old.kept.boards new.kept.boards started

-- ---- statements

abbrev pub with_told : List Pair → Made → Made
with_told messages made = record { runs = made.runs; batch = record { outputs = made.batch.outputs; messages = made.batch.messages ++ messages } }

-- what statements came to, in one of the states that the session stood for
pub record Observed (app : Shape) (old new : Working) (before after : ℕ) (state : SessionState) (r : StatementsResult)
    (outcome : Outcome) : Type 0 where
  pub stepped : Stepped app old.kept new.kept before after state r.state r.bodies
  pub comes : outcome ≡ r.outcome
  pub told : new.made ≡ with_told r.messages old.made

abbrev pub ObservesIn : Shape → Working → Working → ℕ → ℕ → SessionState → StatementsResult → Result Outcome Memory → Type 0
ObservesIn app old new before after state r (Ok outcome) = Observed app old new before after state r outcome
ObservesIn app old new before after state r (Err e) = after ≤ before + (r.bodies + missing_readers app old.kept.session state)

abbrev pub Observes : Shape → Working → Working → ℕ → ℕ → (SessionState → StatementsResult) → Result Outcome Memory → Type 0
Observes app old new before after step result =
    (state : SessionState) → StandsWholly app old.kept state → ObservesIn app old new before after state (step state) result

-- so many bodies were run at most, where so many terms were evaluated
abbrev pub IsWithin : Shape → ℕ → ℕ → ℕ → Type 0
IsWithin app count before after = after ≤ before + length (readers app) * count

-- what is done with a value, which runs no body
pub record Does (step : SessionState → StatementsResult) (old new : Working) (result : Result Outcome Memory) : Type 0 where
  pub app : new.app ≡ old.app
  pub observes : Observes (shape_of old.app) old new 0 0 step result
  pub ready : OnOk result (IsReady new)
  pub running : new.kept.session.running ≡ old.kept.session.running
  pub queues : OnOk result (Queues old new)

-- what a call on observer n leaves that evaluates `count` terms at most
pub record Acts {S : Type 0} (follows : S → S → Type 0) (out : S → List Lent) (n count : ℕ) (step : SessionState → StatementsResult)
    (old new : Working) (asker asker' : S) (before after : ℕ) (result : Result Outcome Memory) : Type 0 where
  pub app : new.app ≡ old.app
  pub observes : Observes (shape_of old.app) old new before after step result
  pub within : IsWithin (shape_of old.app) count before after
  pub goes_on : OnOk result (MayAct n new)
  pub queues : OnOk result (Queues old new)
  pub succeeds : follows asker' asker
  pub leaves : out asker' ≡ []

-- ---- runs

-- one more run is told
abbrev pub with_run : Made → Made → Made
with_run made more = record {
  runs = made.runs ++ more.runs;
  batch = record { outputs = made.batch.outputs ++ more.batch.outputs; messages = made.batch.messages ++ more.batch.messages };
}

pub record Ran (app : Shape) (old new : Working) (before after : ℕ) (state : SessionState) (r : RunResult)
    (said : Option (List ℕ)) : Type 0 where
  pub stepped : Stepped app old.kept new.kept before after state r.state r.bodies
  pub failure : said ≡ failure_of app r.run
  pub told : new.made ≡ with_run old.made (made_of app (r.run ∷ []))

abbrev pub RunsIn : Shape → Working → Working → ℕ → ℕ → SessionState → RunResult → Result (Option (List ℕ)) Memory → Type 0
RunsIn app old new before after state r (Ok failure) = Ran app old new before after state r failure
RunsIn app old new before after state r (Err e) = after ≤ before + (r.bodies + missing_readers app old.kept.session state)

-- what the run of a reader leaves
pub record Runs {S : Type 0} (follows : S → S → Type 0) (out : S → List Lent) (count : ℕ) (step : SessionState → RunResult)
    (old new : Working) (asker asker' : S) (before after : ℕ) (result : Result (Option (List ℕ)) Memory) : Type 0 where
  pub app : new.app ≡ old.app
  pub runs : (state : SessionState) → StandsWholly (shape_of old.app) old.kept state
      → RunsIn (shape_of old.app) old new before after state (step state) result
  pub within : IsWithin (shape_of old.app) count before after
  pub goes_on : OnOk result (IsAtRest new)
  pub queues : OnOk result (Queues old new)
  pub succeeds : follows asker' asker
  pub leaves : out asker' ≡ []

-- reader n waited, alone of those that wait it is known to wait no longer, and no observer runs
pub record IsNext (n : ℕ) (w : Working) : Type 0 where
  pub whole : w.whole ≡ true
  pub none_runs : w.kept.session.running ≡ None
  pub known : n < length (readers (shape_of w.app))
  pub waited : waits_in (shape_of w.app) w.kept n ≡ true
  pub taken : waits_at w.pending n ≡ false
  pub others : (m : ℕ) → m < length (readers (shape_of w.app)) → m ≢ n
      → waits_at w.pending m ≡ waits_in (shape_of w.app) w.kept m

-- ---- the end of a task

-- the running invocation of the task has ended, and the job of the next one, if one waited, stands behind those that were there
pub record EndsTask (task : ℕ) (old new : Working) : Type 0 where
  pub app : new.app ≡ old.app
  pub moves : Moves (shape_of old.app) old.kept new.kept (end_task (shape_of old.app) task)
  pub ready : IsReady new
  pub running : new.kept.session.running ≡ old.kept.session.running
  pub made : new.made ≡ old.made
  pub started : List Job
  pub jobs : new.jobs ≡ old.jobs ++ started
  pub starts : Starts old.kept.boards new.kept.boards started

-- ---- the beginning and the end of an observer's run

pub record Begins (n : ℕ) (old new : Working) : Type 0 where
  pub app : new.app ≡ old.app
  pub moves : Moves (shape_of old.app) old.kept new.kept (with_sources n [])
  pub may : MayAct n new
  pub boards : new.kept.boards ≡ old.kept.boards
  pub jobs : new.jobs ≡ old.jobs
  pub made : new.made ≡ old.made

pub record Finishes (old new : Working) : Type 0 where
  pub app : new.app ≡ old.app
  pub moves : Moves (shape_of old.app) old.kept new.kept (λ state. state)
  pub rests : IsAtRest new
  pub boards : new.kept.boards ≡ old.kept.boards
  pub jobs : new.jobs ≡ old.jobs
  pub made : new.made ≡ old.made
