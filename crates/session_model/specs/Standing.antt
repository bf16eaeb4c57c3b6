-- What it means that a session, which keeps outcomes, stands for a state, which keeps none.
use Rattle.std.specs.Prelude.{◌≡◌, ⊤, ℕ, zero, suc, ◌+◌, ◌==◌, Bool, true, false, not, ◌&&◌, List, [], ◌∷◌, length, Option, Some, None, slice_get, unwrap_or, if◌then◌else◌}
use Rattle.rx_value.specs.declared.outcome.Outcome.{Outcome}
use Rattle.rx_value.specs.declared.outcome.Outcome.TheVariants.{Stop}
use Rattle.app_tree.specs.declared.term.Read.{Read}
use Rattle.app_tree.specs.declared.term.Read.TheVariants as read
use Rattle.app_tree.specs.Tree.{Node, reactive, Shape}
use Rattle.app_tree.specs.Numbering.{readers, reader, is_evaluated, starting_values}
use Rattle.app_tree.specs.Current.{CurrentValues}
use Rattle.app_tree.specs.Evaluate.{Answers, site_count, site_count_all}
use Rattle.app_tree.specs.Trace.{EveryRead}
use Rattle.app_tree.specs.Fresh.{is_among, answer_to, known_expressions, kept_sites, fresh_evaluation, fresh_outcome, sources_read}
use Rattle.task_board.specs.Board.{TaskBoard}
use Rattle.session_model.specs.declared.state.Dependencies.{Dependencies}
use Rattle.session_model.specs.declared.state.ReaderState.{ReaderState}
use Rattle.session_model.specs.State.{SessionState, first_boards, isolated_of, reader_state, sources_in, is_alive}
use Rattle.session_model.specs.Bodies.{bodies_counted}
use Rattle.session_model.specs.Flush.{is_observer_at}

-- ---- states

-- a read of a source, or of an expression that is alive
abbrev pub IsAliveRead : SessionState → Read → Type 0
IsAliveRead state (read.Expr m) = is_alive (reader_state state m) ≡ true
IsAliveRead state r = ⊤

-- the same sources, in whatever order
abbrev pub HasSameMembers : List ℕ → List ℕ → Type 0
HasSameMembers sources others = (s : ℕ) → is_among s sources ≡ is_among s others

-- The state has what it has for each reader of the app and for no other. Each expression or output that is alive
-- depends on the sources that it reads, and each expression that it asks for afresh, through its keys and, where these
-- all come to values, through its body, is alive too.
pub record IsConsistent (app : Shape) (state : SessionState) : Type 0 where
  pub size : length state.readers ≡ length (readers app)
  pub sources : (n : ℕ) (i : Node) → reader app n ≡ Some i → is_evaluated i ≡ true
      → is_alive (reader_state state n) ≡ true
      → HasSameMembers
      (sources_in (reader_state state n).dependencies)
      (sources_read app state.values (isolated_of state) n)
  pub closed : (n : ℕ) (i : Node) → reader app n ≡ Some i → is_evaluated i ≡ true
      → is_alive (reader_state state n) ≡ true
      → EveryRead (IsAliveRead state) (fresh_evaluation app state.values (isolated_of state) n).asked

-- ---- sessions

-- what a reader is known to depend on: it never ran; it is stale, since a source that it had reached was changed; or it
-- is alive and depends on these sources
pub data Dependence : Type 0 where
  never_run : Dependence
  stale : Dependence
  alive : List ℕ → Dependence

abbrev pub is_live : Dependence → Bool
is_live (alive sources) = true
is_live _ = false

abbrev pub did_run : Dependence → Bool
did_run never_run = false
did_run _ = true

abbrev pub dependence_by : Bool → List ℕ → Dependence
dependence_by true sources = stale
dependence_by false sources = alive sources

-- a mark leaves nothing of what was reached
abbrev pub dependence_of : Option Dependencies → Dependence
dependence_of None = never_run
dependence_of (Some d) = dependence_by d.changed d.sources

-- what a session keeps for one reader: what it depends on, and of its last run the outcome and those of its isolated
-- sites. The observer that runs depends on what it has reached so far, and counts as one that has run
pub record KeptReader : Type 0 where
  pub dependence : Dependence
  pub isolated : List (ℕ × Outcome)
  pub outcome : Outcome

-- the readers by number, and the observer that runs, if one does
pub record KeptSession : Type 0 where
  pub values : CurrentValues
  pub readers : List KeptReader
  pub running : Option ℕ

abbrev pub first_kept : KeptReader
first_kept = record { dependence = never_run; isolated = []; outcome = Stop }

abbrev pub kept_reader : KeptSession → ℕ → KeptReader
kept_reader session n = unwrap_or (slice_get session.readers n) first_kept

abbrev pub first_kept_readers : List Node → List KeptReader
first_kept_readers [] = []
first_kept_readers (i ∷ more) = first_kept ∷ first_kept_readers more

-- before anything ran
abbrev pub first_session : Shape → KeptSession
first_session app = record {
  values = starting_values app.items;
  readers = first_kept_readers (readers app);
  running = None;
}

-- ---- a session for a state

abbrev pub IsSameDependence : Dependence → Dependence → Type 0
IsSameDependence never_run never_run = ⊤
IsSameDependence stale stale = ⊤
IsSameDependence (alive sources) (alive others) = HasSameMembers sources others
IsSameDependence _ _ = ⊥

-- the first one may not have run where the other one has, or not again
abbrev pub IsBehind : Dependence → Dependence → Type 0
IsBehind never_run other = ⊤
IsBehind stale never_run = ⊥
IsBehind stale other = ⊤
IsBehind (alive sources) (alive others) = HasSameMembers sources others
IsBehind (alive sources) other = ⊥

-- an expression without an isolated site; what is behind an event term is one
abbrev pub is_bare : Option Node → Bool
is_bare (Some (reactive name keys body)) = (site_count_all keys == 0) && (site_count body == 0)
is_bare _ = false

-- an observer, which has run or is doing so
pub record IsRunning (app : Shape) (session : KeptSession) (n : ℕ) : Type 0 where
  pub observer : is_observer_at (reader app n) ≡ true
  pub ran : did_run (kept_reader session n).dependence ≡ true

-- What is kept for the readers is that of the state, and what is alive has its fresh outcome. An expression without a
-- site may be behind in the session: a hit in the cache leaves a body unevaluated, and with it the expressions that the
-- body reads. A state may have an outcome of a site that such an expression hasn't, so these are not compared there.
pub record StandsForState (app : Shape) (session : KeptSession) (state : SessionState) : Type 0 where
  pub values : session.values ≡ state.values
  pub size : length session.readers ≡ length (readers app)
  pub consistent : IsConsistent app state
  pub dependences : (n : ℕ) → is_bare (reader app n) ≡ false
      → IsSameDependence (kept_reader session n).dependence (dependence_of (reader_state state n).dependencies)
  pub bare_dependences : (n : ℕ) → is_bare (reader app n) ≡ true
      → IsBehind (kept_reader session n).dependence (dependence_of (reader_state state n).dependencies)
  pub isolated : (n : ℕ) → is_bare (reader app n) ≡ false
      → (kept_reader session n).isolated ≡ (reader_state state n).isolated
  pub outcomes : (n : ℕ) (i : Node) → reader app n ≡ Some i → is_evaluated i ≡ true
      → is_live (kept_reader session n).dependence ≡ true
      → (kept_reader session n).outcome ≡ fresh_outcome app state.values (isolated_of state) n
  pub running : (n : ℕ) → session.running ≡ Some n → IsRunning app session n

-- ---- with what the flush looks after

-- whether the client shows an output, and the outcome of its last run
pub record KeptOutput : Type 0 where
  pub shown : Bool
  pub last : Option Outcome

-- by reader number whether it is shown and its last outcome, and the tasks' boards
pub record KeptFlush : Type 0 where
  pub session : KeptSession
  pub outputs : List KeptOutput
  pub boards : List TaskBoard

abbrev pub first_output : KeptOutput
first_output = record { shown = false; last = None }

abbrev pub kept_output : KeptFlush → ℕ → KeptOutput
kept_output kept n = unwrap_or (slice_get kept.outputs n) first_output

abbrev pub first_outputs : List Node → List KeptOutput
first_outputs [] = []
first_outputs (i ∷ more) = first_output ∷ first_outputs more

-- before the first event
abbrev pub first_kept_flush : Shape → KeptFlush
first_kept_flush app = record {
  session = first_session app;
  outputs = first_outputs (readers app);
  boards = first_boards app.items;
}

pub record StandsWholly (app : Shape) (kept : KeptFlush) (state : SessionState) : Type 0 where
  pub session : StandsForState app kept.session state
  pub size : length kept.outputs ≡ length (readers app)
  pub boards : kept.boards ≡ state.boards
  pub shown : (n : ℕ) → (kept_output kept n).shown ≡ (reader_state state n).shown
  pub last : (n : ℕ) → (kept_output kept n).last ≡ (reader_state state n).last

-- ---- how many readers are missing

abbrev pub fresh_answers : Shape → SessionState → ℕ → Answers
fresh_answers app state n = record {
  read = answer_to app state.values (known_expressions app state.values (kept_sites (isolated_of state)));
  site = kept_sites (isolated_of state) n;
}

abbrev pub is_missing : KeptSession → SessionState → ℕ → Bool
is_missing session state n = is_alive (reader_state state n) && not (is_live (kept_reader session n).dependence)

-- the readers below a number that are alive in the state and not in the session; a cached one counts only where its
-- keys all come to values
abbrev pub missing_below : Shape → KeptSession → SessionState → ℕ → ℕ
missing_below app session state zero = 0
missing_below app session state (suc n) =
    missing_below app session state n
    + (if is_missing session state n then bodies_counted (reader app n) (fresh_answers app state n) else 0)

abbrev pub missing_readers : Shape → KeptSession → SessionState → ℕ
missing_readers app session state = missing_below app session state (length (readers app))

-- ---- the session that keeps all

abbrev pub kept_from : Shape → SessionState → ℕ → List ReaderState → List KeptReader
kept_from app state n [] = []
kept_from app state n (r ∷ rs) =
    record {
      dependence = dependence_of r.dependencies;
      isolated = r.isolated;
      outcome = fresh_outcome app state.values (isolated_of state) n;
    }
    ∷ kept_from app state (suc n) rs

-- for each reader the outcome that it comes to afresh, where no observer runs
abbrev pub session_keeping_all : Shape → SessionState → KeptSession
session_keeping_all app state = record {
  values = state.values;
  readers = kept_from app state 0 state.readers;
  running = None;
}

abbrev pub outputs_of : List ReaderState → List KeptOutput
outputs_of [] = []
outputs_of (r ∷ rs) = record { shown = r.shown; last = r.last } ∷ outputs_of rs

abbrev pub flush_keeping_all : Shape → SessionState → KeptFlush
flush_keeping_all app state = record {
  session = session_keeping_all app state;
  outputs = outputs_of state.readers;
  boards = state.boards;
}
