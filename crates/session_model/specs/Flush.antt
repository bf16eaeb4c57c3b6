-- The flush: which readers wait, and their runs until none waits, the budget is spent or an observer fails.
use Rattle.std.specs.Prelude.{ℕ, zero, suc, ◌+◌, ℤ, pos, Bool, true, false, not, ◌&&◌, ◌||◌, List, [], ◌∷◌, Option, Some, None, option_map, int_lt, if◌then◌else◌}
use Rattle.rx_value.specs.declared.outcome.Outcome.{Outcome}
use Rattle.rx_value.specs.declared.outcome.Outcome.TheVariants.{Fail}
use Rattle.shiny_json.specs.declared.message.Pair.{Pair}
use Rattle.app_tree.specs.Tree.{Node, text, plot, observe, on, Shape}
use Rattle.app_tree.specs.Numbering.{readers, reader, is_observer}
use Rattle.session_model.specs.declared.state.ReaderState.{ReaderState}
use Rattle.session_model.specs.State.{SessionState, reader_state, with_reader, is_alive}
use Rattle.session_model.specs.Run.{ReaderRun, run_reader}
use Rattle.session_model.specs.Observing.{StatementsResult, run_observer}

-- ---- who waits

-- observers run by themselves, and outputs where they are shown or run while they are hidden; nobody waits for anything
-- else
abbrev pub is_wanted : Node → ReaderState → Bool
is_wanted (text name output) r = output.while_hidden || r.shown
is_wanted (plot name output) r = output.while_hidden || r.shown
is_wanted (observe name priority block) r = true
is_wanted (on name priority flags e block) r = true
is_wanted _ r = false

-- such a reader waits where it is not alive
abbrev pub is_waiting : Node → ReaderState → Bool
is_waiting i r = is_wanted i r && not (is_alive r)

abbrev pub priority_of : Node → ℤ
priority_of (text name output) = output.priority
priority_of (plot name output) = output.priority
priority_of (observe name priority block) = priority
priority_of (on name priority flags e block) = priority
priority_of _ = pos 0

-- a reader that waits
pub record Waiting : Type 0 where
  pub number : ℕ
  pub priority : ℤ

-- the one of higher priority, and at equal ones the first
abbrev pub first_of : Waiting → Option Waiting → Waiting
first_of w None = w
first_of w (Some other) = if int_lt w.priority other.priority then other else w

abbrev pub and_later : Bool → Waiting → Option Waiting → Option Waiting
and_later true w later = Some (first_of w later)
and_later false w later = later

-- of the readers that wait the one of highest priority, and of these the one of least number, where the first of these
-- readers has number n
abbrev pub waiting_from : ℕ → List Node → List ReaderState → Option Waiting
waiting_from n (i ∷ more) (r ∷ rs) =
    and_later (is_waiting i r) (record { number = n; priority = priority_of i }) (waiting_from (suc n) more rs)
waiting_from n _ _ = None

abbrev pub next_waiting : Shape → SessionState → Option ℕ
next_waiting app state = option_map (λ w. w.number) (waiting_from 0 (readers app) state.readers)

-- ---- the runs

-- one run that the flush made, of an output or of an observer, with the input messages of an observer
pub record Run : Type 0 where
  pub number : ℕ
  pub outcome : Outcome
  pub messages : List Pair

-- a run with what it leaves: the session's state, and how many bodies were run
pub record RunResult : Type 0 where
  pub state : SessionState
  pub bodies : ℕ
  pub run : Run

abbrev pub with_last : ℕ → Outcome → SessionState → SessionState
with_last n outcome state = with_reader n (record (reader_state state n) { last = Some outcome }) state

-- an output's outcome becomes its last outcome
abbrev pub output_result : ℕ → ReaderRun → RunResult
output_result n run =
    record {
      state = with_last n run.outcome run.state;
      bodies = run.bodies;
      run = record { number = n; outcome = run.outcome; messages = [] };
    }

abbrev pub observer_result : ℕ → StatementsResult → RunResult
observer_result n result =
    record {
      state = result.state;
      bodies = result.bodies;
      run = record { number = n; outcome = result.outcome; messages = result.messages };
    }

abbrev pub is_observer_at : Option Node → Bool
is_observer_at (Some i) = is_observer i
is_observer_at None = false

abbrev pub make_by : Bool → Shape → ℕ → SessionState → RunResult
make_by true app n state = observer_result n (run_observer app n state)
make_by false app n state = output_result n (run_reader app n state)

abbrev pub make_run : Shape → ℕ → SessionState → RunResult
make_run app n state = make_by (is_observer_at (reader app n)) app n state

-- ---- the flush

-- no reader waits, the budget is spent and one still waits, or an observer failed with a text
pub data FlushEnd : Type 0 where
  done : FlushEnd
  budget_spent : FlushEnd
  observer_failed : List ℕ → FlushEnd

pub record FlushResult : Type 0 where
  pub state : SessionState
  pub runs : List Run
  pub bodies : ℕ
  pub end : FlushEnd

-- the failure of an observer
abbrev pub failure_by : Bool → Outcome → Option (List ℕ)
failure_by true (Fail why) = Some why
failure_by _ outcome = None

abbrev pub failure_of : Shape → Run → Option (List ℕ)
failure_of app run = failure_by (is_observer_at (reader app run.number)) run.outcome

-- without a run
abbrev pub no_runs : FlushEnd → SessionState → FlushResult
no_runs end state = record { state = state; runs = []; bodies = 0; end = end }

-- a run, and what the flush makes behind it
abbrev pub with_first_run : RunResult → FlushResult → FlushResult
with_first_run first rest = record {
  state = rest.state;
  runs = first.run ∷ rest.runs;
  bodies = first.bodies + rest.bodies;
  end = rest.end;
}

-- the flush goes on behind a run, unless that is of an observer that failed
abbrev pub go_on_unless_failed : Option (List ℕ) → (SessionState → FlushResult) → SessionState → FlushResult
go_on_unless_failed None go_on state = go_on state
go_on_unless_failed (Some why) go_on state = no_runs (observer_failed why) state

abbrev pub after_run : Shape → (SessionState → FlushResult) → RunResult → FlushResult
after_run app go_on first = with_first_run first (go_on_unless_failed (failure_of app first.run) go_on first.state)

-- where nobody waits there is no run, and else the next one stands in front of the flush behind it
abbrev pub flush_step : Shape → (SessionState → FlushResult) → SessionState → Option ℕ → FlushResult
flush_step app go_on state None = no_runs done state
flush_step app go_on state (Some n) = after_run app go_on (make_run app n state)

-- nothing is left of the budget
abbrev pub end_without_budget : Option ℕ → FlushEnd
end_without_budget None = done
end_without_budget (Some n) = budget_spent

-- with so many runs left of the budget
abbrev pub flush_within : Shape → ℕ → SessionState → FlushResult
flush_within app zero state = no_runs (end_without_budget (next_waiting app state)) state
flush_within app (suc left) state = flush_step app (flush_within app left) state (next_waiting app state)

abbrev pub flush : Shape → SessionState → FlushResult
flush app state = flush_within app app.budget state
