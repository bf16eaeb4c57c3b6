-- Each step of a session leaves a consistent state consistent, whatever the flush keeps beside it.
use Rattle.std.specs.Prelude.{◌≡◌, ℕ, Bool, true, [], length, Some}
use Rattle.rx_value.specs.declared.source.SourceValue.{SourceValue}
use Rattle.app_tree.specs.Tree.{Tree, Node, Shape}
use Rattle.app_tree.specs.Numbering.{readers, reader, is_expression, is_output, is_observer}
use Rattle.app_tree.specs.Cover.{reads_in}
use Rattle.app_tree.specs.Trace.{Every}
use Rattle.session_model.specs.State.{SessionState, first_state, reader_state, with_sources, is_alive}
use Rattle.session_model.specs.Change.{change}
use Rattle.session_model.specs.Run.{visit_expression, run_reader}
use Rattle.session_model.specs.Observing.{read_by_observer}
use Rattle.session_model.specs.Standing.{IsConsistent}
use Rattle.app_laws.specs.Orderly.{ReadsBelow, IsNumbered}
use Rattle.app_laws.specs.Proper.{IsProper}

abbrev pub FirstIsConsistent : Type 0
FirstIsConsistent = (app : Shape) → IsProper app → IsConsistent app (first_state app)

-- consistent, and with expression m alive
pub record IsVisited (app : Shape) (m : ℕ) (state : SessionState) : Type 0 where
  pub consistent : IsConsistent app state
  pub alive : is_alive (reader_state state m) ≡ true

-- a read of an expression
abbrev pub VisitKeepsConsistent : Type 0
VisitKeepsConsistent =
    (app : Shape) → IsProper app → (state : SessionState) → IsConsistent app state → (m : ℕ) (i : Node)
    → reader app m ≡ Some i → is_expression i ≡ true
    → IsVisited app m (visit_expression app m state).state

-- a run of an output, alive or not
abbrev pub OutputKeepsConsistent : Type 0
OutputKeepsConsistent =
    (app : Shape) → IsProper app → (state : SessionState) → IsConsistent app state → (n : ℕ) (i : Node)
    → reader app n ≡ Some i → is_output i ≡ true
    → IsConsistent app (run_reader app n state).state

-- the beginning of an observer's run
abbrev pub BeginKeepsConsistent : Type 0
BeginKeepsConsistent =
    (app : Shape) → IsProper app → (state : SessionState) → IsConsistent app state → (n : ℕ) (i : Node)
    → reader app n ≡ Some i → is_observer i ≡ true
    → IsConsistent app (with_sources n [] state)

-- a term of it, whose reads count or not
abbrev pub TermKeepsConsistent : Type 0
TermKeepsConsistent =
    (app : Shape) → IsProper app → (state : SessionState) → IsConsistent app state → (n : ℕ) (i : Node)
    → reader app n ≡ Some i → is_observer i ≡ true
    → (isolated : Bool) (t : Tree) (k : ℕ) → IsNumbered k t → Every (ReadsBelow app (length (readers app))) (reads_in t)
    → IsConsistent app (read_by_observer app n isolated t state).state

-- a write
abbrev pub WriteKeepsConsistent : Type 0
WriteKeepsConsistent =
    (app : Shape) → IsProper app → (state : SessionState) → IsConsistent app state → (s : ℕ) (x : SourceValue)
    → IsConsistent app (change s x state)
