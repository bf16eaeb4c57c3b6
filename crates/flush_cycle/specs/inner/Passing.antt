-- What a flush has come to, and the texts that tell it.
use Rattle.std.specs.Prelude.{◌≡◌, ◌≤◌, ⊤, ℕ, ◌+◌, Bool, true, false, List, [], ◌∷◌, ◌++◌, Result, Ok, Err, OnOk}
use Rattle.rx_value.specs.declared.memory.Memory.{Memory}
use Rattle.shiny_json.specs.declared.batch.BatchOutput.{BatchOutput}
use Rattle.shiny_json.specs.declared.batch.Batch.{Batch}
use Rattle.shiny_json.specs.Server.{config_text, busy_text}
use Rattle.shiny_json.specs.Values.{values_text}
use Rattle.app_tree.specs.Tree.{Shape}
use Rattle.app_tree.specs.View.{shape_of}
use Rattle.app_laws.specs.Proper.{IsProper}
use Rattle.pending_set.specs.Waiting.{NoneWaits}
use Rattle.session_model.specs.State.{SessionState}
use Rattle.session_model.specs.Flush.{FlushEnd, done, budget_spent, observer_failed, FlushResult}
use Rattle.session_model.specs.Standing.{StandsWholly, missing_readers}
use Rattle.session_model.specs.Texts.{output_texts}
use Rattle.session_laws.specs.Sound.{IsRight}
use Rattle.task_board.specs.declared.job.Job.{Job}
use Rattle.term_eval.specs.Lent.{Lent}
use Rattle.flush_cycle.specs.Flushing.{Stepped, most_bodies}
use Rattle.flush_cycle.specs.Jobs.{Starts}
use Rattle.flush_cycle.specs.Reports.{made_of}
use Rattle.flush_cycle.specs.declared.flushing.End.{End}
use Rattle.flush_cycle.specs.declared.flushing.End.TheVariants as end
use Rattle.flush_cycle.specs.Working.{Working, IsAtRest}
use Rattle.flush_cycle.specs.inner.Acting.{Queues, with_run}

-- ---- the flush

abbrev pub end_of : End → FlushEnd
end_of end.Done = done
end_of end.BudgetSpent = budget_spent
end_of (end.ObserverFailed why) = observer_failed why

-- in one of the states that the session stood for
pub record Passed (app : Shape) (old new : Working) (before after : ℕ) (state : SessionState) (f : FlushResult) (e : End) : Type 0 where
  pub stepped : Stepped app old.kept new.kept before after state f.state f.bodies
  pub end : f.end ≡ end_of e
  pub told : new.made ≡ with_run old.made (made_of app f.runs)

abbrev pub PassesIn : Shape → Working → Working → ℕ → ℕ → SessionState → FlushResult → Result End Memory → Type 0
PassesIn app old new before after state f (Ok e) = Passed app old new before after state f e
PassesIn app old new before after state f (Err e) = after ≤ before + (f.bodies + missing_readers app old.kept.session state)

-- nobody waits
pub record IsQuiet (w : Working) : Type 0 where
  pub rests : IsAtRest w
  pub quiet : NoneWaits w.pending

abbrev pub RestsAfter : Working → End → Type 0
RestsAfter w end.Done = IsQuiet w
RestsAfter w _ = ⊤

pub record Passes {S : Type 0} (follows : S → S → Type 0) (out : S → List Lent) (event : SessionState → FlushResult)
    (old new : Working) (asker asker' : S) (before after : ℕ) (result : Result End Memory) : Type 0 where
  pub app : new.app ≡ old.app
  pub passes : (state : SessionState) → StandsWholly (shape_of old.app) old.kept state
      → PassesIn (shape_of old.app) old new before after state (event state) result
  pub within : after ≤ before + most_bodies (shape_of old.app)
  pub rests : (e : End) → result ≡ Ok e → RestsAfter new e
  pub queues : OnOk result (Queues old new)
  pub succeeds : follows asker' asker
  pub leaves : out asker' ≡ []

-- ---- an event, which tells its own runs alone

pub record PassedAnew (app : Shape) (old new : Working) (before after : ℕ) (state : SessionState) (f : FlushResult) (e : End) : Type 0 where
  pub stepped : Stepped app old.kept new.kept before after state f.state f.bodies
  pub end : f.end ≡ end_of e
  pub told : new.made ≡ made_of app f.runs

abbrev pub PassesAnewIn : Shape → Working → Working → ℕ → ℕ → SessionState → FlushResult → Result End Memory → Type 0
PassesAnewIn app old new before after state f (Ok e) = PassedAnew app old new before after state f e
PassesAnewIn app old new before after state f (Err e) = after ≤ before + (f.bodies + missing_readers app old.kept.session state)

-- these jobs were started, and stand behind those that were there
pub record StartsAnew (old new : Working) : Type 0 where
  pub started : List Job
  pub jobs : new.jobs ≡ old.jobs ++ started
  pub starts : Starts old.kept.boards new.kept.boards started

-- That a job of the flush is not the invocation that ended is known where the session stands for a state in which what it keeps is
-- right: there the numbers of the invocations rise.
pub record PassesAnew {S : Type 0} (follows : S → S → Type 0) (out : S → List Lent) (event : SessionState → FlushResult)
    (old new : Working) (asker asker' : S) (before after : ℕ) (result : Result End Memory) : Type 0 where
  pub app : new.app ≡ old.app
  pub proper : IsProper (shape_of old.app)
  pub passes : (state : SessionState) → StandsWholly (shape_of old.app) old.kept state
      → PassesAnewIn (shape_of old.app) old new before after state (event state) result
  pub within : after ≤ before + most_bodies (shape_of old.app)
  pub rests : (e : End) → result ≡ Ok e → RestsAfter new e
  pub queues : (state : SessionState) → StandsWholly (shape_of old.app) old.kept state → IsRight (shape_of old.app) state
      → OnOk result (StartsAnew old new)
  pub succeeds : follows asker' asker
  pub leaves : out asker' ≡ []

-- ---- the texts, by what was made

abbrev pub outputs_texts : List BatchOutput → List (List ℕ)
outputs_texts [] = []
outputs_texts (o ∷ more) = output_texts o.name ++ outputs_texts more

abbrev pub closing_made : Batch → Bool → List (List ℕ)
closing_made batch true = values_text batch ∷ busy_text false ∷ []
closing_made batch false = []

abbrev pub texts_made : Batch → Bool → List (List ℕ)
texts_made batch ends = busy_text true ∷ (outputs_texts batch.outputs ++ closing_made batch ends)

abbrev pub first_made : List ℕ → Batch → Bool → List (List ℕ)
first_made label batch ends = config_text label ∷ texts_made batch ends

abbrev pub later_made : List ℕ → Batch → Bool → List (List ℕ)
later_made [] batch true = []
later_made runs batch ends = texts_made batch ends

abbrev pub is_done : End → Bool
is_done end.Done = true
is_done _ = false
