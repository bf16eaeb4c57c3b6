use Rattle.std.proofs.Common.{◌≡◌, ℤ, List, [], ◌∷◌, ◌++◌, drop, Result}
use Rattle.rx_value.specs.declared.value.Value.{Value}
use Rattle.rx_value.specs.declared.value.Value.TheVariants as v
use Rattle.app_tree.specs.View.{tree_of, trees_of_terms}
use Rattle.app_tree.specs.Evaluate.{Evaluation, evaluate, evaluate_all, over_each}
use Rattle.term_eval.specs.declared.ending.Early.{Early}
use Rattle.app_tree.specs.Wanted.{completed}
use Rattle.term_eval.specs.inner.Walks.{At, Walks}
use Rattle.term_eval.proofs.walk.+term.Given as goal

abbrev pub invariant-over_list-loop-number : goal.invariant-over_list-loop-number
invariant-over_list-loop-number g l =
    let A = g.R.Reader.answers l.fn.reader in
    let step : Value → ℤ → Evaluation = λ a z. evaluate (tree_of l.body) (completed A) (l.fn.variables ++ a ∷ v.Int z ∷ []) in
    record {
      keeps : g.R.Reader.answers l.reader ≡ A;
      variables : l.variables ≡ l.fn.variables;
      rest : (later : At _) (res : Result Value Early) → Walks g.R.Reader.answers g.R.Reader.noted (over_each step l.accumulator (drop l.number-index l.numbers)) (record { reader = l.reader; variables = l.variables }) later res
          → Walks g.R.Reader.answers g.R.Reader.noted (over_each step l.fn.start l.numbers) (record { reader = l.fn.reader; variables = l.fn.variables }) later res;
    }

abbrev pub invariant-values_of-loop-term : goal.invariant-values_of-loop-term
invariant-values_of-loop-term g l =
    let A = g.R.Reader.answers l.fn.reader in
    record {
      keeps : g.R.Reader.answers l.reader ≡ A;
      variables : l.variables ≡ l.fn.variables;
      rest : (next : List Value → Evaluation) (later : At _) (res : Result Value Early)
          → Walks g.R.Reader.answers g.R.Reader.noted (evaluate_all (trees_of_terms (drop l.term-index l.terms)) (completed A) l.fn.variables l.values next) (record { reader = l.reader; variables = l.variables }) later res
          → Walks g.R.Reader.answers g.R.Reader.noted (evaluate_all (trees_of_terms l.terms) (completed A) l.fn.variables [] next) (record { reader = l.fn.reader; variables = l.fn.variables }) later res;
    }
