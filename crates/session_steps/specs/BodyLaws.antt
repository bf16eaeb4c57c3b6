-- How many bodies a session that keeps outcomes runs: each at most once in a step, and over time at most as many as the states
-- count, where those that hits have left out are made up for.
use Rattle.std.specs.Prelude.{◌≡◌, ◌⊎◌, ℕ, ◌+◌, ◌≤◌, Bool, true, false, List, [], length, Some, nat_eq}
use Rattle.std.specs.List.{IsDistinct}
use Rattle.rx_value.specs.declared.outcome.Outcome.{Outcome}
use Rattle.rx_value.specs.declared.source.SourceValue.{SourceValue}
use Rattle.app_tree.specs.Tree.{Tree, Node, Shape}
use Rattle.app_tree.specs.Numbering.{readers, reader, is_expression, is_output, is_evaluated, is_observer}
use Rattle.app_tree.specs.Cover.{reads_in}
use Rattle.app_tree.specs.Trace.{Every}
use Rattle.app_laws.specs.Orderly.{ReadsBelow, IsNumbered}
use Rattle.app_laws.specs.Proper.{IsProper}
use Rattle.session_model.specs.State.{SessionState, with_sources}
use Rattle.session_model.specs.Change.{change}
use Rattle.session_model.specs.Run.{visit_expression, run_reader}
use Rattle.session_model.specs.Observing.{read_by_observer}
use Rattle.session_model.specs.Standing.{KeptSession, StandsForState, missing_readers}
use Rattle.session_steps.specs.Keeping.{lives}
use Rattle.session_steps.specs.Bringing.{Aim, reading, running, Brings, Begins}
use Rattle.session_steps.specs.Acting.{write_kept, begin_kept, finish_kept, Comes, ComesUntil}

-- ---- each at most once

-- a reader whose body is run wasn't alive, but for the one that is run whether it is alive or not
abbrev pub WasDead : Aim → ℕ → KeptSession → ℕ → Type 0
WasDead reading n session m = lives session m ≡ false
WasDead running n session m = lives session m ≡ true → m ≡ n

-- no body is run twice, and each reader whose body was run is alive afterwards
pub record IsRunOnce (aim : Aim) (n : ℕ) (bodies : List ℕ) (before after : KeptSession) : Type 0 where
  pub once : IsDistinct nat_eq bodies
  pub was : Every (WasDead aim n before) bodies
  pub lives : Every (λ m. lives after m ≡ true) bodies

abbrev pub EachRunsOnce : Type 0
EachRunsOnce =
    (app : Shape) → IsProper app → (session after : KeptSession) → length session.readers ≡ length (readers app)
    → (n : ℕ) (i : Node) → reader app n ≡ Some i → is_evaluated i ≡ true
    → (aim : Aim) (bodies : List ℕ) → Brings app aim bodies n session after → IsRunOnce aim n bodies session after

-- so there are no more than readers, also where memory is wanting on the way
abbrev pub NoMoreThanReaders : Type 0
NoMoreThanReaders =
    (app : Shape) → IsProper app → (session after : KeptSession) → length session.readers ≡ length (readers app)
    → (n : ℕ) (i : Node) → reader app n ≡ Some i → is_evaluated i ≡ true
    → (aim : Aim) (bodies : List ℕ) → Brings app aim bodies n session after ⊎ Begins app aim bodies n session after
    → length bodies ≤ length (readers app)

abbrev pub TermRunsNoMore : Type 0
TermRunsNoMore =
    (app : Shape) → IsProper app → (session after : KeptSession) → length session.readers ≡ length (readers app)
    → (n : ℕ) (isolated : Bool) (t : Tree) → Every (ReadsBelow app (length (readers app))) (reads_in t)
    → (bodies : List ℕ) (outcome : Outcome)
    → Comes app n isolated t bodies session after outcome ⊎ ComesUntil app n t bodies session after
    → length bodies ≤ length (readers app)

-- ---- at most as many as the states count

-- bodies of the step and readers that are missing after it, against bodies that the state counts and readers that were missing
abbrev pub IsBounded : Shape → List ℕ → KeptSession → KeptSession → SessionState → SessionState → ℕ → Type 0
IsBounded app bodies session after state left counted =
    length bodies + missing_readers app after left ≤ counted + missing_readers app session state

abbrev pub ForceIsBounded : Type 0
ForceIsBounded =
    (app : Shape) → IsProper app → (session after : KeptSession) (state : SessionState) → StandsForState app session state
    → (n : ℕ) (i : Node) → reader app n ≡ Some i → is_expression i ≡ true
    → (bodies : List ℕ) → Brings app reading bodies n session after
    → IsBounded app bodies session after state (visit_expression app n state).state (visit_expression app n state).bodies

abbrev pub OutputIsBounded : Type 0
OutputIsBounded =
    (app : Shape) → IsProper app → (session after : KeptSession) (state : SessionState) → StandsForState app session state
    → (n : ℕ) (i : Node) → reader app n ≡ Some i → is_output i ≡ true
    → (bodies : List ℕ) → Brings app running bodies n session after
    → IsBounded app bodies session after state (run_reader app n state).state (run_reader app n state).bodies

abbrev pub TermIsBounded : Type 0
TermIsBounded =
    (app : Shape) → IsProper app → (session after : KeptSession) (state : SessionState) → StandsForState app session state
    → (n : ℕ) (i : Node) → reader app n ≡ Some i → is_observer i ≡ true
    → (isolated : Bool) (t : Tree) (k : ℕ) → IsNumbered k t → Every (ReadsBelow app (length (readers app))) (reads_in t)
    → (bodies : List ℕ) (outcome : Outcome) → Comes app n isolated t bodies session after outcome
    → IsBounded app bodies session after state
    (read_by_observer app n isolated t state).state
    (read_by_observer app n isolated t state).bodies

-- these run no body
abbrev pub WriteIsBounded : Type 0
WriteIsBounded =
    (app : Shape) → IsProper app → (session : KeptSession) (state : SessionState) → StandsForState app session state
    → (s : ℕ) (x : SourceValue)
    → missing_readers app (write_kept s x session) (change s x state) ≤ missing_readers app session state

abbrev pub BeginIsBounded : Type 0
BeginIsBounded =
    (app : Shape) → IsProper app → (session : KeptSession) (state : SessionState) → StandsForState app session state
    → (n : ℕ) (i : Node) → reader app n ≡ Some i → is_observer i ≡ true
    → missing_readers app (begin_kept n session) (with_sources n [] state) ≤ missing_readers app session state

abbrev pub FinishIsBounded : Type 0
FinishIsBounded =
    (app : Shape) (session : KeptSession) (state : SessionState)
    → missing_readers app (finish_kept session) state ≡ missing_readers app session state

-- ---- where memory is wanting, of the bodies alone

abbrev pub ForceBeginsBounded : Type 0
ForceBeginsBounded =
    (app : Shape) → IsProper app → (session after : KeptSession) (state : SessionState) → StandsForState app session state
    → (n : ℕ) (i : Node) → reader app n ≡ Some i → is_expression i ≡ true
    → (bodies : List ℕ) → Begins app reading bodies n session after
    → length bodies ≤ (visit_expression app n state).bodies + missing_readers app session state

abbrev pub OutputBeginsBounded : Type 0
OutputBeginsBounded =
    (app : Shape) → IsProper app → (session after : KeptSession) (state : SessionState) → StandsForState app session state
    → (n : ℕ) (i : Node) → reader app n ≡ Some i → is_output i ≡ true
    → (bodies : List ℕ) → Begins app running bodies n session after
    → length bodies ≤ (run_reader app n state).bodies + missing_readers app session state

abbrev pub TermBeginsBounded : Type 0
TermBeginsBounded =
    (app : Shape) → IsProper app → (session after : KeptSession) (state : SessionState) → StandsForState app session state
    → (n : ℕ) (i : Node) → reader app n ≡ Some i → is_observer i ≡ true
    → (isolated : Bool) (t : Tree) (k : ℕ) → IsNumbered k t → Every (ReadsBelow app (length (readers app))) (reads_in t)
    → (bodies : List ℕ) → ComesUntil app n t bodies session after
    → length bodies ≤ (read_by_observer app n isolated t state).bodies + missing_readers app session state
