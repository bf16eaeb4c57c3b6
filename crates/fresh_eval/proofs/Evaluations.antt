-- Evaluations over what is known: nothing is wanted, keys come before the body, and an event term before its body.
use Rattle.std.proofs.Common.{◌≡◌, ℕ, List, [], ◌∷◌, ◌++◌, Option, None, Ok, Err, refl, ap}
use Rattle.std.specs.Prelude.{unwrap_or}
use Rattle.rx_value.specs.declared.value.Value.{Value}
use Rattle.rx_value.specs.declared.outcome.Outcome.{Outcome}
use Rattle.rx_value.specs.declared.outcome.Outcome.TheVariants as o
use Rattle.app_tree.specs.Tree.{Tree, Trees, no_trees, tree}
use Rattle.app_tree.specs.Evaluate.{Answers, TraceEntry, reads, given, enters, leaves, Evaluation, then_by, then_with, evaluate, evaluate_all, outcome_of}
use Rattle.app_tree.specs.Fresh.{cached, without_reads}
use Rattle.app_tree.specs.Wanted.{first_wanted}
use Rattle.rx_source.specs.NumberedValues.{NumberedValues}
use Rattle.fresh_eval.specs.inner.Answering.{answering_by}
use Rattle.fresh_eval.specs.inner.Failing.{value_in, failure_or, first_failure}

-- ---- nothing is wanted

pub nothing_wanted : (sources : NumberedValues) (known : List Outcome) (ignored : Option ℕ) (asked : List TraceEntry) → first_wanted (answering_by sources known ignored) asked ≡ None
nothing_wanted sources known ignored [] = refl
nothing_wanted sources known ignored (reads r ∷ more) = nothing_wanted sources known ignored more
nothing_wanted sources known ignored (given site ∷ more) = nothing_wanted sources known ignored more
nothing_wanted sources known ignored (enters site ∷ more) = nothing_wanted sources known ignored more
nothing_wanted sources known ignored (leaves site outcome ∷ more) = nothing_wanted sources known ignored more

-- ---- one evaluation, and then another

value_is : (outcome : Outcome) (x : Value) → value_in outcome ≡ Ok x → outcome ≡ o.Val x
value_is (o.Val y) x h = cc
value_is (o.Fail t) x h = cc
value_is o.Stop x h = cc
value_is o.Cancel x h = cc
value_is o.Running x h = cc

pub goes_on : (e : Evaluation) (next : Value → Evaluation) (x : Value) → value_in e.outcome ≡ Ok x → (then_with e next).outcome ≡ (next x).outcome
goes_on e next x h = ap (λ (z : Outcome). (then_by e z next).outcome) (value_is e.outcome x h)

ends_by : (e : Evaluation) (next : Value → Evaluation) (outcome failure : Outcome) → e.outcome ≡ outcome → value_in outcome ≡ Err failure → (then_by e outcome next).outcome ≡ failure
ends_by e next (o.Val y) failure is h = cc
ends_by e next (o.Fail t) failure is h = cc
ends_by e next o.Stop failure is h = cc
ends_by e next o.Cancel failure is h = cc
ends_by e next o.Running failure is h = cc

pub ends : (e : Evaluation) (next : Value → Evaluation) (failure : Outcome) → value_in e.outcome ≡ Err failure → (then_with e next).outcome ≡ failure
ends e next failure h = ends_by e next e.outcome failure refl h

-- ---- keys

key_first : (e : Evaluation) (outcome : Outcome) (next : Value → Evaluation) (later : Option Outcome) (last : Outcome) → e.outcome ≡ outcome → ((x : Value) → (next x).outcome ≡ unwrap_or later last)
    → (then_by e outcome next).outcome ≡ unwrap_or (failure_or (value_in outcome) later) last
key_first e (o.Val x) next later last is h = h x
key_first e (o.Fail t) next later last is h = is
key_first e o.Stop next later last is h = is
key_first e o.Cancel next later last is h = is
key_first e o.Running next later last is h = is

keys_first : (keys : Trees) (answers : Answers) (done : List Value) (last : Evaluation) → (evaluate_all keys answers [] done (λ xs. last)).outcome ≡ unwrap_or (first_failure keys answers) last.outcome
keys_first no_trees answers done last = refl
keys_first (tree key more) answers done last =
    key_first (evaluate key answers []) (evaluate key answers []).outcome (λ x. evaluate_all more answers [] (done ++ x ∷ []) (λ xs. last)) (first_failure more answers) last.outcome refl
    (λ x. keys_first more answers (done ++ x ∷ []) last)

pub cached_is : (keys : Trees) (body : Tree) (answers : Answers) → (cached keys body answers).outcome ≡ unwrap_or (first_failure keys answers) (outcome_of body answers [])
cached_is no_trees body answers = refl
cached_is (tree key more) body answers = keys_first (tree key more) answers [] (without_reads (evaluate body answers []))
