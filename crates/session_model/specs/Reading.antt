-- A term evaluated in a session, from left to right: the session's state is handed on from read to read, since an
-- expression that is read and isn't alive is run at that point. In every state that a session comes to, this is
-- `evaluate` of the term on what the expressions give now, with a walk through what it asks: the law `TermIsByTrace` of
-- `session_laws`.
use Rattle.std.specs.Prelude.{ℕ, ◌+◌, ℤ, Bool, true, false, List, [], ◌∷◌, ◌++◌, Option, Some, None, slice_get, unwrap_or}
use Rattle.rx_value.specs.declared.value.Value.{Value}
use Rattle.rx_value.specs.declared.value.Value.TheVariants as v
use Rattle.rx_value.specs.declared.outcome.Outcome.{Outcome}
use Rattle.rx_value.specs.declared.outcome.Outcome.TheVariants.{Val}
use Rattle.rx_value.specs.declared.failure.Failure.TheVariants.{WrongKind, NotACondition}
use Rattle.rx_value.specs.Failure.{failure_outcome}
use Rattle.rx_value.specs.Numbers.{number_list}
use Rattle.rx_value.specs.Operators.{unary_result, binary_result}
use Rattle.app_tree.specs.declared.term.Read.{Read}
use Rattle.app_tree.specs.declared.term.Read.TheVariants as read
use Rattle.app_tree.specs.declared.term.Operator.{Operator}
use Rattle.app_tree.specs.declared.term.Operator.TheVariants as operator
use Rattle.app_tree.specs.Tree.{Tree, constant, group, get, variable, isolate, stop, require, fold, unary, binary, choice, call, Trees, no_trees, tree, Shape}
use Rattle.app_tree.specs.Current.{told}
use Rattle.app_tree.specs.Evaluate.{wanted_bool, called, stop_outcome, required}
use Rattle.app_tree.specs.Fresh.{fresh_outcome}
use Rattle.session_model.specs.State.{SessionState, isolated_of}

-- what an evaluation has come to: the session's state, how many bodies were run, the reads outside of every isolated
-- site in their order, and the outcome
pub record TermResult : Type 0 where
  pub state : SessionState
  pub bodies : ℕ
  pub outside : List Read
  pub outcome : Outcome

-- what becomes of an expression that is read: the session's state, and how many bodies were run
pub record VisitResult : Type 0 where
  pub state : SessionState
  pub bodies : ℕ

-- how a reader reads: what becomes of an expression that it reads, and of the outcome of one of its isolated sites
pub record Manner : Type 0 where
  pub visit : ℕ → SessionState → VisitResult
  pub keep : ℕ → Outcome → SessionState → SessionState

-- an evaluation that starts in a state of the session
abbrev pub Reading : Type 0
Reading = SessionState → TermResult

-- without reading anything
abbrev pub plain_reading : Outcome → Reading
plain_reading outcome state = record { state = state; bodies = 0; outside = []; outcome = outcome }

-- one evaluation, and then another, which gives the outcome
abbrev pub joined_results : TermResult → TermResult → TermResult
joined_results e next = record {
  state = next.state;
  bodies = e.bodies + next.bodies;
  outside = e.outside ++ next.outside;
  outcome = next.outcome;
}

-- goes on with a value, and ends at a failure
abbrev pub go_on_by : TermResult → Outcome → (Value → Reading) → TermResult
go_on_by e (Val x) next = joined_results e (next x e.state)
go_on_by e _ next = e

abbrev pub go_on : TermResult → (Value → Reading) → TermResult
go_on e next = go_on_by e e.outcome next

-- ---- reads

-- an expression gives what it comes to afresh in the state that its visit leaves
abbrev pub read_expression : Shape → ℕ → VisitResult → TermResult
read_expression app m visited = record {
  state = visited.state;
  bodies = visited.bodies;
  outside = read.Expr m ∷ [];
  outcome = fresh_outcome app visited.state.values (isolated_of visited.state) m;
}

abbrev pub read_in : Shape → Manner → Read → Reading
read_in app manner (read.Expr m) state = read_expression app m (manner.visit m state)
read_in app manner r state = record { state = state; bodies = 0; outside = r ∷ []; outcome = told app state.values r }

-- ---- operators

-- the second operand, where the first does not decide by being this
abbrev pub decided_in : Bool → Reading → Value → Reading
decided_in true m (v.Bool true) state = plain_reading (Val (v.Bool true)) state
decided_in true m (v.Bool false) state = go_on (m state) (λ y. plain_reading (wanted_bool y))
decided_in false m (v.Bool false) state = plain_reading (Val (v.Bool false)) state
decided_in false m (v.Bool true) state = go_on (m state) (λ y. plain_reading (wanted_bool y))
decided_in _ m _ state = plain_reading (failure_outcome NotACondition) state

abbrev pub operated_in : Operator → Reading → Value → Reading
operated_in operator.Or m x state = decided_in true m x state
operated_in operator.And m x state = decided_in false m x state
operated_in (operator.Strict op) m x state = go_on (m state) (λ y. plain_reading (binary_result op x y))

-- the part that the condition chooses; the other one is not evaluated
abbrev pub chosen_in : Reading → Reading → Value → Reading
chosen_in m n (v.Bool true) state = m state
chosen_in m n (v.Bool false) state = n state
chosen_in m n _ state = plain_reading (failure_outcome NotACondition) state

-- ---- folds

abbrev pub over_each_in : (Value → ℤ → Reading) → Value → List ℤ → Reading
over_each_in step accumulator [] state = plain_reading (Val accumulator) state
over_each_in step accumulator (z ∷ zs) state = go_on (step accumulator z state) (λ next. over_each_in step next zs)

abbrev pub over_list_in : (Value → ℤ → Reading) → Value → Option (List ℤ) → Reading
over_list_in step start (Some zs) state = over_each_in step start zs state
over_list_in step start None state = plain_reading (failure_outcome WrongKind) state

-- ---- isolated sites

-- what is read at a site does not count, and its outcome may be kept
abbrev pub kept_in : Manner → ℕ → TermResult → TermResult
kept_in manner site e = record e { state = manner.keep site e.outcome e.state; outside = [] }

-- ---- terms

abbrev mutual
  pub read_term : Shape → Manner → Tree → List Value → Reading
  read_term app manner (constant x) args state = plain_reading (Val x) state
  read_term app manner (group t) args state = read_term app manner t args state
  read_term app manner (get r) args state = read_in app manner r state
  read_term app manner (variable n) args state = plain_reading (Val (unwrap_or (slice_get args n) v.Null)) state
  read_term app manner (isolate site t) args state = kept_in manner site (read_term app manner t args state)
  read_term app manner (stop t) args state =
      go_on (read_term app manner t args state) (λ x. plain_reading (stop_outcome x))
  read_term app manner (require t cancels) args state =
      go_on (read_term app manner t args state) (λ x. plain_reading (required cancels x))
  read_term app manner (fold list start accumulator element body) args state =
      go_on (read_term app manner list args state) (λ x s. go_on (read_term app manner start args s) (λ y.
      over_list_in (λ a z. read_term app manner body (args ++ a ∷ v.Int z ∷ [])) y (number_list x)))
  read_term app manner (unary op t) args state =
      go_on (read_term app manner t args state) (λ x. plain_reading (unary_result op x))
  read_term app manner (binary op a b) args state =
      go_on (read_term app manner a args state) (operated_in op (read_term app manner b args))
  read_term app manner (choice condition m n) args state =
      go_on (read_term app manner condition args state)
      (chosen_in (read_term app manner m args) (read_term app manner n args))
  read_term app manner (call f ts) args state =
      read_terms app manner ts args [] (λ xs. plain_reading (called f xs)) state

  -- goes on with the values of all the terms, behind those that are there
  pub read_terms : Shape → Manner → Trees → List Value → List Value → (List Value → Reading) → Reading
  read_terms app manner no_trees args done next state = next done state
  read_terms app manner (tree t more) args done next state =
      go_on (read_term app manner t args state) (λ x. read_terms app manner more args (done ++ x ∷ []) next)
