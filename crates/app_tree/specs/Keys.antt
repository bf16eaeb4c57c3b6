-- What the keys of a cached reader come to.
use Rattle.std.specs.Prelude.{List, [], ◌∷◌, ◌++◌, Result, Ok, Err}
use Rattle.rx_value.specs.declared.value.Value.{Value}
use Rattle.rx_value.specs.declared.value.Value.TheVariants.{Null}
use Rattle.rx_value.specs.declared.outcome.Outcome.{Outcome}
use Rattle.rx_value.specs.declared.outcome.Outcome.TheVariants.{Val}
use Rattle.app_tree.specs.Tree.{Trees, no_trees, tree}
use Rattle.app_tree.specs.Evaluate.{Answers, Evaluation, plain, evaluate_all, outcome_of}

-- the values of all keys in their order, or the first failure
abbrev pub KeysResult : Type 0
KeysResult = Result (List Value) Outcome

abbrev pub after_key : List Value → Outcome → (List Value → KeysResult) → KeysResult
after_key done (Val x) next = next (done ++ x ∷ [])
after_key done failure next = Err failure

-- of these keys, behind the values of those before them
abbrev pub keys_from : Trees → Answers → List Value → KeysResult
keys_from no_trees answers done = Ok done
keys_from (tree key more) answers done = after_key done (outcome_of key answers []) (keys_from more answers)

abbrev pub keys_result : Trees → Answers → KeysResult
keys_result keys answers = keys_from keys answers []

-- the keys alone, without a body: what they ask, and the first failure, or NULL where there is none
abbrev pub keys_evaluation : Trees → Answers → Evaluation
keys_evaluation keys answers = evaluate_all keys answers [] [] (λ xs. plain (Val Null))
