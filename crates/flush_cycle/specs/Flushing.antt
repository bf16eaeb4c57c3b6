-- What contracts see of a Flusher, and what its calls answer.
use Rattle.std.specs.Prelude.{◌≡◌, ◌≤◌, ⊤, ℕ, ◌+◌, ◌*◌, Bool, List, ◌++◌, length, Option, Some, IsSome}
use Rattle.app_tree.specs.Held.{Held}
use Rattle.app_tree.specs.Tree.{Shape}
use Rattle.app_tree.specs.Numbering.{readers}
use Rattle.app_tree.specs.ObserverTerms.{terms}
use Rattle.task_board.specs.declared.job.Job.{Job}
use Rattle.session_model.specs.State.{SessionState}
use Rattle.session_model.specs.Change.{thaw}
use Rattle.session_model.specs.Tasks.{end_task}
use Rattle.session_model.specs.Flush.{FlushEnd, done, budget_spent, observer_failed, FlushResult, flush}
use Rattle.session_model.specs.Standing.{KeptFlush, StandsWholly, missing_readers}
use Rattle.session_laws.specs.Sound.{IsRight}
use Rattle.flush_cycle.specs.Jobs.{Starts}
use Rattle.flush_cycle.specs.Reports.{made_of, report_of}
use Rattle.flush_cycle.specs.declared.report.Report.{Report}
use Rattle.flush_cycle.specs.declared.stage.Stage.{Stage}
use Rattle.flush_cycle.specs.declared.stage.Stage.TheVariants.{Open, Over}
use Rattle.flush_cycle.specs.declared.flushed.Flushed.{Flushed}
use Rattle.flush_cycle.specs.declared.flushed.Flushed.TheVariants as flushed

-- the app, what is kept of the session, the jobs that were started and not yet given out, oldest first, how far the session has
-- come, and what there is to tell of its last event
pub record Flushing : Type 0 where
  pub app : Held
  pub kept : KeptFlush
  pub jobs : List Job
  pub stage : Stage
  pub report : Option Report

-- the session goes on exactly where the flush was done
abbrev pub stage_after : Flushed → Stage
stage_after (flushed.Done texts) = Open
stage_after _ = Over

-- there is a state that it stands for wholly, and in which what a session keeps is right
pub record StandsRightly (app : Shape) (kept : KeptFlush) : Type 0 where
  pub state : SessionState
  pub stands : StandsWholly app kept state
  pub right : IsRight app state

-- ---- what an event comes to, in one of the states that the Flusher stood for

-- It stands for the state after the step; and the bodies that were run, with the readers that are missing now, are no more than
-- the bodies that the step counts, with those that were missing.
pub record Stepped (app : Shape) (old new : KeptFlush) (before after : ℕ) (state next : SessionState) (bodies : ℕ) : Type 0 where
  pub stands : StandsWholly app new next
  pub bound : after + missing_readers app new.session next ≤ before + (bodies + missing_readers app old.session state)

-- the flush came to this end, these texts are sent, and the report tells its runs
pub record Ends (app : Shape) (init : Bool) (old new : Flushing) (before after : ℕ) (state : SessionState) (f : FlushResult)
    (expected : FlushEnd) (wanted sent : List (List ℕ)) : Type 0 where
  pub end : f.end ≡ expected
  pub texts : sent ≡ wanted
  pub stepped : Stepped app old.kept new.kept before after state f.state f.bodies
  pub report : new.report ≡ Some (report_of init (made_of app f.runs) new.kept)

-- where memory was wanting the bodies alone are bounded
abbrev pub EndsBy : Shape → Bool → Flushing → Flushing → ℕ → ℕ → SessionState → FlushResult → List (List ℕ) → Flushed → Type 0
EndsBy app init old new before after state f wanted (flushed.Done texts) =
    Ends app init old new before after state f done wanted texts
EndsBy app init old new before after state f wanted (flushed.BudgetSpent texts) =
    Ends app init old new before after state f budget_spent wanted texts
EndsBy app init old new before after state f wanted (flushed.ObserverFailed why texts) =
    Ends app init old new before after state f (observer_failed why) wanted texts
EndsBy app init old new before after state f wanted flushed.Memory =
    after ≤ before + (f.bodies + missing_readers app old.kept.session state)

-- so it is in each state that the Flusher stood for, of this event's flush and its texts
abbrev pub Flushes : Shape → Bool → Flushing → Flushing → ℕ → ℕ → (SessionState → FlushResult)
    → (FlushResult → List (List ℕ)) → Flushed → Type 0
Flushes app init old new before after event texts answer =
    (state : SessionState) → StandsWholly app old.kept state
    → EndsBy app init old new before after state (event state) (texts (event state)) answer

-- ---- what holds of each event, whatever it stood for

-- the jobs that the event started stand behind those that were there
pub record StartsBehind (old new : Flushing) : Type 0 where
  pub started : List Job
  pub jobs : new.jobs ≡ old.jobs ++ started
  pub starts : Starts old.kept.boards new.kept.boards started

-- so many bodies one event runs at most: each run evaluates each term of its reader once, and each of these runs no reader twice
abbrev pub most_bodies : Shape → ℕ
most_bodies app = app.budget * (length (readers app) * terms app)

-- ---- the end of a task

-- what is frozen thaws, the running invocation of the task ends, and then comes the flush
abbrev pub flush_task_end : Shape → ℕ → SessionState → FlushResult
flush_task_end app task state = flush app (end_task app task (thaw state))

-- ---- answers

abbrev pub IfDone : Flushed → Type 0 → Type 0
IfDone (flushed.Done texts) P = P
IfDone _ P = ⊤

abbrev pub IfNotMemory : Flushed → Type 0 → Type 0
IfNotMemory flushed.Memory P = ⊤
IfNotMemory _ P = P

-- for want of memory the report stays, and else there is one
abbrev pub Reports : Option Report → Option Report → Flushed → Type 0
Reports old new flushed.Memory = new ≡ old
Reports old new _ = IsSome new
