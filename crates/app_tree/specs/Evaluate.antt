-- What a term comes to on given answers, and what is asked on the way: from left to right, where the first failure is
-- the outcome.
use Rattle.std.specs.Prelude.{ℕ, suc, ◌+◌, ℤ, Bool, true, false, List, [], ◌∷◌, ◌++◌, Option, Some, None, slice_get, unwrap_or, if◌then◌else◌}
use Rattle.rx_value.specs.declared.value.Value.{Value}
use Rattle.rx_value.specs.declared.value.Value.TheVariants as v
use Rattle.rx_value.specs.declared.outcome.Outcome.{Outcome}
use Rattle.rx_value.specs.declared.outcome.Outcome.TheVariants.{Val, Fail, Stop, Cancel}
use Rattle.rx_value.specs.declared.failure.Failure.TheVariants.{WrongKind, NotACondition}
use Rattle.rx_value.specs.Failure.{failure_outcome}
use Rattle.rx_value.specs.Numbers.{number_list}
use Rattle.rx_value.specs.Truth.{is_truthy}
use Rattle.rx_value.specs.Operators.{unary_result, binary_result}
use Rattle.rx_value.specs.Functions.{function_result}
use Rattle.rx_value.specs.Plot.{plot_result}
use Rattle.rx_value.specs.declared.plot.Plot.{Plot}
use Rattle.app_tree.specs.declared.term.Read.{Read}
use Rattle.app_tree.specs.declared.term.Operator.{Operator}
use Rattle.app_tree.specs.declared.term.Operator.TheVariants as operator
use Rattle.app_tree.specs.declared.term.Function.{Function}
use Rattle.app_tree.specs.declared.term.Function.TheVariants as function
use Rattle.app_tree.specs.Tree.{Tree, constant, group, get, variable, isolate, stop, require, fold, unary, binary, choice, call, Trees, no_trees, tree}

-- the answer to each read, and to each isolated site, where None says that its term is evaluated now
pub record Answers : Type 0 where
  pub read : Read → Outcome
  pub site : ℕ → Option Outcome

-- an entry of an evaluation's trace, which says what is asked: a read, a site that is answered, and where a site that is
-- evaluated begins, and ends with its outcome
pub data TraceEntry : Type 0 where
  reads : Read → TraceEntry
  given : ℕ → TraceEntry
  enters : ℕ → TraceEntry
  leaves : ℕ → Outcome → TraceEntry

-- the outcome; the trace of all that was asked, in order; and of that the reads outside of every site
pub record Evaluation : Type 0 where
  pub outcome : Outcome
  pub asked : List TraceEntry
  pub outside : List Read

-- by the answers and the values of the variables
abbrev pub Meaning : Type 0
Meaning = Answers → List Value → Evaluation

-- without asking anything
abbrev pub plain : Outcome → Evaluation
plain outcome = record { outcome = outcome; asked = []; outside = [] }

abbrev pub read_of : Answers → Read → Evaluation
read_of answers r = record { outcome = answers.read r; asked = reads r ∷ []; outside = r ∷ [] }

-- one evaluation, and then another, which gives the outcome
abbrev pub after : Evaluation → Evaluation → Evaluation
after e next = record { outcome = next.outcome; asked = e.asked ++ next.asked; outside = e.outside ++ next.outside }

-- goes on with a value, and ends at a failure
abbrev pub then_by : Evaluation → Outcome → (Value → Evaluation) → Evaluation
then_by e (Val x) next = after e (next x)
then_by e _ next = e

abbrev pub then_with : Evaluation → (Value → Evaluation) → Evaluation
then_with e next = then_by e e.outcome next

-- ---- operators

abbrev pub wanted_bool : Value → Outcome
wanted_bool (v.Bool b) = Val (v.Bool b)
wanted_bool _ = failure_outcome NotACondition

-- the second operand, where the first does not decide by being this
abbrev pub decided_by : Bool → Meaning → Answers → List Value → Value → Evaluation
decided_by true m answers args (v.Bool true) = plain (Val (v.Bool true))
decided_by true m answers args (v.Bool false) = then_with (m answers args) (λ y. plain (wanted_bool y))
decided_by false m answers args (v.Bool false) = plain (Val (v.Bool false))
decided_by false m answers args (v.Bool true) = then_with (m answers args) (λ y. plain (wanted_bool y))
decided_by _ m answers args _ = plain (failure_outcome NotACondition)

-- what an operator makes of its first operand's value and of its second operand
abbrev pub operated : Operator → Meaning → Answers → List Value → Value → Evaluation
operated operator.Or m answers args x = decided_by true m answers args x
operated operator.And m answers args x = decided_by false m answers args x
operated (operator.Strict op) m answers args x = then_with (m answers args) (λ y. plain (binary_result op x y))

-- the part that the condition chooses; the other one is not evaluated
abbrev pub chosen_by : Meaning → Meaning → Answers → List Value → Value → Evaluation
chosen_by m n answers args (v.Bool true) = m answers args
chosen_by m n answers args (v.Bool false) = n answers args
chosen_by m n answers args _ = plain (failure_outcome NotACondition)

-- ---- functions

abbrev pub plotted : Plot → List Value → Outcome
plotted p (width ∷ height ∷ title ∷ data_of ∷ []) = plot_result p width height title data_of
plotted p _ = failure_outcome WrongKind

abbrev pub called : Function → List Value → Outcome
called (function.Fun f) xs = function_result f xs
called (function.Plot p) xs = plotted p xs

abbrev pub stop_outcome : Value → Outcome
stop_outcome (v.Text t) = Fail t
stop_outcome _ = failure_outcome WrongKind

abbrev pub required : Bool → Value → Outcome
required cancels x = if is_truthy x then Val x else (if cancels then Cancel else Stop)

-- ---- folds

abbrev pub over_each : (Value → ℤ → Evaluation) → Value → List ℤ → Evaluation
over_each step accumulator [] = plain (Val accumulator)
over_each step accumulator (z ∷ zs) = then_with (step accumulator z) (λ next. over_each step next zs)

abbrev pub over_list : (Value → ℤ → Evaluation) → Value → Option (List ℤ) → Evaluation
over_list step start (Some zs) = over_each step start zs
over_list step start None = plain (failure_outcome WrongKind)

-- ---- isolated sites

-- a site that is answered asks nothing more; one that is evaluated leaves its outcome, and none of its reads counts
abbrev pub at_site : ℕ → Meaning → Answers → List Value → Option Outcome → Evaluation
at_site site m answers args (Some outcome) = record { outcome = outcome; asked = given site ∷ []; outside = [] }
at_site site m answers args None = left_with (m answers args)
  where
    left_with : Evaluation → Evaluation
    left_with e = record { outcome = e.outcome; asked = enters site ∷ (e.asked ++ leaves site e.outcome ∷ []); outside = [] }

-- ---- terms

abbrev mutual
  pub evaluate : Tree → Meaning
  evaluate (constant x) answers args = plain (Val x)
  evaluate (group t) answers args = evaluate t answers args
  evaluate (get r) answers args = read_of answers r
  evaluate (variable n) answers args = plain (Val (unwrap_or (slice_get args n) v.Null))
  evaluate (isolate site t) answers args = at_site site (evaluate t) answers args (answers.site site)
  evaluate (stop t) answers args = then_with (evaluate t answers args) (λ x. plain (stop_outcome x))
  evaluate (require t cancels) answers args = then_with (evaluate t answers args) (λ x. plain (required cancels x))
  evaluate (fold list start accumulator element body) answers args =
      then_with (evaluate list answers args) (λ x. then_with (evaluate start answers args) (λ y.
      over_list (λ a z. evaluate body answers (args ++ a ∷ v.Int z ∷ [])) y (number_list x)))
  evaluate (unary op t) answers args = then_with (evaluate t answers args) (λ x. plain (unary_result op x))
  evaluate (binary op a b) answers args = then_with (evaluate a answers args) (operated op (evaluate b) answers args)
  evaluate (choice condition m n) answers args = then_with (evaluate condition answers args) (chosen_by (evaluate m) (evaluate n) answers args)
  evaluate (call f ts) answers args = evaluate_all ts answers args [] (λ xs. plain (called f xs))

  -- goes on with the values of all the terms, behind those that are there
  pub evaluate_all : Trees → Answers → List Value → List Value → (List Value → Evaluation) → Evaluation
  evaluate_all no_trees answers args done next = next done
  evaluate_all (tree t more) answers args done next = then_with (evaluate t answers args) (λ x. evaluate_all more answers args (done ++ x ∷ []) next)

abbrev pub outcome_of : Tree → Answers → List Value → Outcome
outcome_of t answers args = (evaluate t answers args).outcome

-- ---- how many sites stand in a term, also within one another

abbrev mutual
  pub site_count : Tree → ℕ
  site_count (constant x) = 0
  site_count (group t) = site_count t
  site_count (get r) = 0
  site_count (variable n) = 0
  site_count (isolate site t) = suc (site_count t)
  site_count (stop t) = site_count t
  site_count (require t cancels) = site_count t
  site_count (fold list start accumulator element body) = site_count list + site_count start + site_count body
  site_count (unary op t) = site_count t
  site_count (binary op a b) = site_count a + site_count b
  site_count (choice condition m n) = site_count condition + site_count m + site_count n
  site_count (call f ts) = site_count_all ts

  pub site_count_all : Trees → ℕ
  site_count_all no_trees = 0
  site_count_all (tree t more) = site_count t + site_count_all more
