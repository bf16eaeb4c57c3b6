-- What a session that keeps outcomes does leaves it standing for the state that the same step leaves.
use Rattle.std.specs.Prelude.{◌≡◌, ℕ, Bool, true, List, [], length, Some, None, Ok}
use Rattle.rx_value.specs.declared.value.Value.{Value}
use Rattle.rx_value.specs.declared.outcome.Outcome.{Outcome}
use Rattle.rx_value.specs.declared.source.SourceValue.{SourceValue}
use Rattle.app_tree.specs.Tree.{Tree, Node, Shape}
use Rattle.app_tree.specs.Numbering.{readers, reader, is_expression, is_output, is_observer}
use Rattle.app_tree.specs.Cover.{Cached, cached_node, keyed_outcome, reads_in}
use Rattle.app_tree.specs.Evaluate.{outcome_of}
use Rattle.app_tree.specs.Wanted.{completed}
use Rattle.app_tree.specs.Fresh.{fresh_outcome}
use Rattle.app_tree.specs.Trace.{Every}
use Rattle.app_laws.specs.Orderly.{ReadsBelow, IsNumbered}
use Rattle.app_laws.specs.Proper.{IsProper}
use Rattle.session_model.specs.State.{SessionState, isolated_of, with_sources}
use Rattle.session_model.specs.Change.{change}
use Rattle.session_model.specs.Reading.{TermResult}
use Rattle.session_model.specs.Run.{visit_expression, run_reader}
use Rattle.session_model.specs.Observing.{read_by_observer}
use Rattle.session_model.specs.Standing.{KeptSession, kept_reader, StandsForState}
use Rattle.session_steps.specs.Keeping.{wanted, answering, keys_attempted, IsAlike}
use Rattle.session_steps.specs.Bringing.{reading, running, Brings}
use Rattle.session_steps.specs.Acting.{write_kept, begin_kept, finish_kept, Comes}

-- the order of sources says nothing
abbrev pub AlikeStands : Type 0
AlikeStands =
    (app : Shape) (session other : KeptSession) (state : SessionState) → StandsForState app session state
    → IsAlike session other → StandsForState app other state

-- ---- expressions and outputs

pub record StandsWith (app : Shape) (n : ℕ) (session : KeptSession) (state : SessionState) (outcome : Outcome) : Type 0 where
  pub stands : StandsForState app session state
  pub keeps : (kept_reader session n).outcome ≡ outcome

-- an expression that was made alive, with runs, waits and hits: its outcome is the fresh one
abbrev pub ForceStands : Type 0
ForceStands =
    (app : Shape) → IsProper app → (session after : KeptSession) (state : SessionState) → StandsForState app session state
    → (n : ℕ) (i : Node) → reader app n ≡ Some i → is_expression i ≡ true
    → (bodies : List ℕ) → Brings app reading bodies n session after
    → StandsWith app n after (visit_expression app n state).state
    (fresh_outcome app (visit_expression app n state).state.values (isolated_of (visit_expression app n state).state) n)

-- an output that was run, alive or not
abbrev pub OutputStands : Type 0
OutputStands =
    (app : Shape) → IsProper app → (session after : KeptSession) (state : SessionState) → StandsForState app session state
    → (n : ℕ) (i : Node) → reader app n ≡ Some i → is_output i ≡ true
    → (bodies : List ℕ) → Brings app running bodies n session after
    → StandsWith app n after (run_reader app n state).state (run_reader app n state).outcome

-- where the evaluation of a cached reader wants nothing and its keys all come to values, its body comes to what the values
-- say: so it may be handed to a cache
abbrev pub BodyIsKeyed : Type 0
BodyIsKeyed =
    (app : Shape) → IsProper app → (session : KeptSession) (state : SessionState) → StandsForState app session state
    → (n : ℕ) (c : Cached) (xs : List Value) → cached_node (reader app n) ≡ Some c → wanted app session n ≡ None
    → keys_attempted app session n c ≡ Ok xs
    → outcome_of c.body (completed (answering app session n)) [] ≡ keyed_outcome app n xs

-- ---- observers and writes

abbrev pub BeginStands : Type 0
BeginStands =
    (app : Shape) → IsProper app → (session : KeptSession) (state : SessionState) → StandsForState app session state
    → (n : ℕ) (i : Node) → reader app n ≡ Some i → is_observer i ≡ true
    → StandsForState app (begin_kept n session) (with_sources n [] state)

abbrev pub FinishStands : Type 0
FinishStands =
    (app : Shape) (session : KeptSession) (state : SessionState) → StandsForState app session state
    → StandsForState app (finish_kept session) state

pub record ComesTo (app : Shape) (session : KeptSession) (outcome : Outcome) (e : TermResult) : Type 0 where
  pub stands : StandsForState app session e.state
  pub comes : outcome ≡ e.outcome

-- a term of an observer, isolated or not
abbrev pub TermStands : Type 0
TermStands =
    (app : Shape) → IsProper app → (session after : KeptSession) (state : SessionState) → StandsForState app session state
    → (n : ℕ) (i : Node) → reader app n ≡ Some i → is_observer i ≡ true
    → (isolated : Bool) (t : Tree) (k : ℕ) → IsNumbered k t → Every (ReadsBelow app (length (readers app))) (reads_in t)
    → (bodies : List ℕ) (outcome : Outcome) → Comes app n isolated t bodies session after outcome
    → ComesTo app after outcome (read_by_observer app n isolated t state)

-- a write, also while an observer runs
abbrev pub WriteStands : Type 0
WriteStands =
    (app : Shape) → IsProper app → (session : KeptSession) (state : SessionState) → StandsForState app session state
    → (s : ℕ) (x : SourceValue) → StandsForState app (write_kept s x session) (change s x state)
