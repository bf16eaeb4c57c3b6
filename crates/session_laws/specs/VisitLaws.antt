-- What a visit to an expression does to a consistent state: it runs what has to be run, each such reader by its trace,
-- and nothing else. The trace of a reader is its evaluation on what every expression gives now, alive or not.
use Rattle.std.specs.Prelude.{◌≡◌, ◌⊎◌, ⊤, ℕ, Bool, true, false, [], Some, slice_get}
use Rattle.app_tree.specs.declared.term.Read.{Read}
use Rattle.app_tree.specs.declared.term.Read.TheVariants as read
use Rattle.app_tree.specs.Tree.{Node, Shape}
use Rattle.app_tree.specs.Numbering.{reader, is_expression}
use Rattle.app_tree.specs.Evaluate.{reads}
use Rattle.app_tree.specs.Trace.{EveryRead}
use Rattle.app_tree.specs.Fresh.{sources_of_reads}
use Rattle.session_model.specs.declared.state.ReaderState.{ReaderState}
use Rattle.session_model.specs.State.{SessionState, reader_state, is_alive}
use Rattle.session_model.specs.Run.{visit_expression}
use Rattle.session_model.specs.Standing.{IsAliveRead, IsConsistent}
use Rattle.app_laws.specs.Recorded.{recorded}
use Rattle.app_laws.specs.Proper.{IsProper}
use Rattle.session_laws.specs.Now.{known_now, open_sites, trace}

-- ---- what becomes of each reader

-- what a run by its trace leaves of reader n: it depends on what the trace reaches, it is not marked, and it keeps the
-- sites that the trace meets; whether it is shown and its last outcome are as before
abbrev pub reader_by_trace : Shape → SessionState → ℕ → ReaderState
reader_by_trace app state n = record (reader_state state n) {
  dependencies =
      Some (record {
        sources = sources_of_reads app (known_now app state) [] (trace app state n).outside;
        changed = false;
      });
  isolated = recorded (open_sites app state n) (trace app state n).asked;
}

-- reader n was not alive, it is now what its trace leaves of it, and each expression that its trace asks is alive
pub record IsRunByTrace (app : Shape) (before after : SessionState) (n : ℕ) : Type 0 where
  pub was : is_alive (reader_state before n) ≡ false
  pub is : reader_state after n ≡ reader_by_trace app before n
  pub asks : EveryRead (IsAliveRead after) (trace app before n).asked

-- a visit leaves each reader as it was, or has run it by its trace
abbrev pub VisitLeavesEach : Type 0
VisitLeavesEach =
    (app : Shape) → IsProper app → (state : SessionState) → IsConsistent app state → (n : ℕ) (i : Node)
    → reader app n ≡ Some i → is_expression i ≡ true
    → (j : ℕ)
    → (reader_state (visit_expression app n state).state j ≡ reader_state state j)
    ⊎ IsRunByTrace app state (visit_expression app n state).state j

-- and all else as it was
abbrev pub VisitLeavesRest : Type 0
VisitLeavesRest =
    (app : Shape) → IsProper app → (state : SessionState) → IsConsistent app state → (n : ℕ) (i : Node)
    → reader app n ≡ Some i → is_expression i ≡ true
    → ((visit_expression app n state).state.values ≡ state.values)
    × ((visit_expression app n state).state.boards ≡ state.boards)

-- ---- no more than what is asked

-- a read of a source, or of an expression of which this holds
abbrev pub IsReadOf : (ℕ → Type 0) → Read → Type 0
IsReadOf holds (read.Expr m) = holds m
IsReadOf holds r = ⊤

-- with each reader of which it holds and that isn't alive, it holds of every expression that this one's trace asks
abbrev pub IsClosed : Shape → SessionState → (ℕ → Type 0) → Type 0
IsClosed app state holds =
    (j : ℕ) → holds j → is_alive (reader_state state j) ≡ false → EveryRead (IsReadOf holds) (trace app state j).asked

-- Of all sets of readers that have the expression and are closed so, a visit makes alive only members: that is the
-- expression, what its trace asks, what the traces of those ask, and so on, up to what is alive already.
abbrev pub VisitIsLeast : Type 0
VisitIsLeast =
    (app : Shape) → IsProper app → (state : SessionState) → IsConsistent app state → (n : ℕ) (i : Node)
    → reader app n ≡ Some i → is_expression i ≡ true
    → (member : ℕ → Bool) → member n ≡ true → IsClosed app state (λ j. member j ≡ true)
    → (j : ℕ) → is_alive (reader_state state j) ≡ false
    → is_alive (reader_state (visit_expression app n state).state j) ≡ true → member j ≡ true

-- ---- the order of visits

-- a visit to an expression that another visit makes alive may come before that one: both lead to the same state
abbrev pub VisitAbsorbs : Type 0
VisitAbsorbs =
    (app : Shape) → IsProper app → (state : SessionState) → IsConsistent app state → (n : ℕ) (i : Node)
    → reader app n ≡ Some i → is_expression i ≡ true
    → (m : ℕ) (j : Node) → reader app m ≡ Some j → is_expression j ≡ true
    → is_alive (reader_state (visit_expression app n state).state m) ≡ true
    → (visit_expression app n (visit_expression app m state).state).state ≡ (visit_expression app n state).state

-- so it is with each expression that the trace of one that isn't alive asks, at whatever place
abbrev pub VisitAbsorbsAsked : Type 0
VisitAbsorbsAsked =
    (app : Shape) → IsProper app → (state : SessionState) → IsConsistent app state → (n : ℕ) (i : Node)
    → reader app n ≡ Some i → is_expression i ≡ true
    → is_alive (reader_state state n) ≡ false → (m place : ℕ)
    → slice_get (trace app state n).asked place ≡ Some (reads (read.Expr m))
    → (visit_expression app n (visit_expression app m state).state).state ≡ (visit_expression app n state).state
