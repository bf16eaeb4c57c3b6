-- What is expected of a run, in each consistent state: also in the midst of a flush, between an output's run and the
-- note of its last outcome.
use Rattle.std.specs.Prelude.{◌≡◌, ◌≢◌, ℕ, true, false, [], length, Some}
use Rattle.app_tree.specs.Tree.{Tree, Node, Shape}
use Rattle.app_tree.specs.Numbering.{readers, reader, is_expression, is_output, is_evaluated}
use Rattle.app_tree.specs.Current.{CurrentValues, value_at}
use Rattle.app_tree.specs.Cover.{reads_in}
use Rattle.app_tree.specs.Trace.{Every}
use Rattle.app_tree.specs.Fresh.{IsolatedOutcomes, fresh_outcome, sources_read}
use Rattle.session_model.specs.State.{SessionState, isolated_of, reader_state, is_alive}
use Rattle.session_model.specs.Run.{passing_manner, run_with, visit_below, visit_expression, run_reader}
use Rattle.session_model.specs.Reading.{read_term}
use Rattle.session_model.specs.Standing.{IsConsistent}
use Rattle.app_laws.specs.Orderly.{ReadsBelow, IsNumbered}
use Rattle.app_laws.specs.Proper.{IsProper}
use Rattle.session_laws.specs.Now.{known_now, evaluation_now, run_by_trace, read_by_trace}

-- an expression or an output that is alive gives now what it comes to afresh
abbrev pub AliveIsFresh : Type 0
AliveIsFresh =
    (app : Shape) → IsProper app → (state : SessionState) → IsConsistent app state → (n : ℕ) (i : Node)
    → reader app n ≡ Some i → is_evaluated i ≡ true → is_alive (reader_state state n) ≡ true
    → (evaluation_now app state n).outcome ≡ fresh_outcome app state.values (isolated_of state) n

-- what a reader comes to depends on the sources that it reads alone
abbrev pub DependsOnReadsAlone : Type 0
DependsOnReadsAlone =
    (app : Shape) → IsProper app → (values others : CurrentValues) (isolated : IsolatedOutcomes) (n : ℕ)
    → Every (λ s. value_at values s ≡ value_at others s) (sources_read app values isolated n)
    → fresh_outcome app others isolated n ≡ fresh_outcome app values isolated n

-- ---- runs by their traces

-- the run of an output, alive or not, as it is stated, is its run by its trace
abbrev pub RunIsByTrace : Type 0
RunIsByTrace =
    (app : Shape) → IsProper app → (state : SessionState) → IsConsistent app state → (n : ℕ) (i : Node)
    → reader app n ≡ Some i → is_output i ≡ true
    → run_reader app n state ≡ run_by_trace app (visit_expression app) n state

-- the run of an expression that isn't alive, as it is read
abbrev pub ExpressionIsByTrace : Type 0
ExpressionIsByTrace =
    (app : Shape) → IsProper app → (state : SessionState) → IsConsistent app state → (n : ℕ) (i : Node)
    → reader app n ≡ Some i → is_expression i ≡ true → is_alive (reader_state state n) ≡ false
    → run_with app (visit_below app n) n state ≡ run_by_trace app (visit_below app n) n state

-- a term of an observer, whose reads are of expressions and whose sites are numbered
abbrev pub TermIsByTrace : Type 0
TermIsByTrace =
    (app : Shape) → IsProper app → (state : SessionState) → IsConsistent app state → (t : Tree) (n : ℕ) → IsNumbered n t
    → Every (ReadsBelow app (length (readers app))) (reads_in t)
    → read_term app (passing_manner (visit_expression app)) t [] state
    ≡ read_by_trace app (passing_manner (visit_expression app)) t state

-- ---- what a run leaves

-- what every expression gives now, and reaches now, is as it was, and what every output gives but for reader n
pub record LeavesNow (app : Shape) (n : ℕ) (before after : SessionState) : Type 0 where
  pub expressions : known_now app after ≡ known_now app before
  pub outputs : (j : ℕ) (i : Node) → j ≢ n → reader app j ≡ Some i → is_output i ≡ true
      → evaluation_now app after j ≡ evaluation_now app before j

-- so does the run of an output, alive or not; what it gives itself may be another, where one of its isolated sites has
-- changed
abbrev pub RunLeavesNow : Type 0
RunLeavesNow =
    (app : Shape) → IsProper app → (state : SessionState) → IsConsistent app state → (n : ℕ) (i : Node)
    → reader app n ≡ Some i → is_output i ≡ true
    → LeavesNow app n state (run_reader app n state).state
