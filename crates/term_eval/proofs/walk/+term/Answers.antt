use Rattle.std.proofs.Common.{◌≡◌, rules, to_z, of_z, w64, ◌+◌, ℤ, pos, true, false, [], ◌∷◌, ◌++◌, Ok, Err, refl, sym, ap, ◌∙◌, subst, drop, get_or}
use Rattle.std.proofs.lemmas.Result.{err_from_is_err_and}
use Rattle.rx_value.specs.Numbers.{number_list}
use Rattle.rx_value.specs.declared.value.Value.{Value}
use Rattle.rx_value.specs.declared.value.Value.TheVariants as v
use Rattle.app_tree.specs.View.{tree_of, trees_of_terms}
use Rattle.app_tree.specs.Evaluate.{Evaluation, plain, called, evaluate, evaluate_all, operated, over_list, chosen_by}
use Rattle.app_tree.specs.Wanted.{completed}
use Rattle.term_eval.specs.inner.Early.{Comes}
use Rattle.term_eval.specs.inner.Walks.{Walks}
use Rattle.term_eval.proofs.Forms.{tree_of-Text, tree_of-Fold, tree_of-Binary, tree_of-If, tree_of-Call}
use Rattle.term_eval.proofs.Walking.{quiet, by_same, goes_on, goes_by, early_by, isolates, each_done, each_more, each_early, all_more}
use Rattle.term_eval.proofs.walk.+term.Goals as goal

pub isolated-returns-in-Run : goal.isolated-returns-in-Run
isolated-returns-in-Run g t c =
    isolates g.R.Reader.answers g.R.Reader.noted g.met.R.Reader.chains c.args.site (evaluate (tree_of c.args.inner.now)) c.args.variables.now ((g.R.Reader.answers c.args.reader.now).site c.args.site)
    (record { reader = c.args.reader.now; variables = c.args.variables.now }) (record { reader = c.enter.new.self; variables = c.args.variables.now })
    (record { reader = c.value_of-got.new.reader; variables = c.value_of-got.new.variables }) (record { reader = c.leave.new.reader; variables = c.value_of-got.new.variables })
    c.leave.result c.value_of-got.result c.in-Run.ensures.tells.0 c.in-Run.ensures.tells.1 c.in-Run.ensures.keeps refl c.value_of-got.ensures c.leave.ensures.keeps refl c.leave.ensures.leaves

pub value_of-returns-in-Text : goal.value_of-returns-in-Text
value_of-returns-in-Text g t c =
    let A = completed (g.R.Reader.answers c.args.reader.now) in
    by_same g.R.Reader.answers g.R.Reader.noted _ _ _ _ c.text_copied.result (ap (λ z. evaluate z A c.args.variables.now) (sym (ap tree_of c.in-Text.is ∙ tree_of-Text c.in-Text.text)))
    (quiet g.R.Reader.answers g.R.Reader.noted g.met.R.Reader.stays _ _ c.text_copied.result c.text_copied.ensures)

pub value_of-returns-in_ok-left-in-Binary : goal.value_of-returns-in_ok-left-in-Binary
value_of-returns-in_ok-left-in-Binary g t c =
    let A = completed (g.R.Reader.answers c.args.reader.now) in
    let h = c.in_ok-left-in-Binary.ensures in
    goes_by g.R.Reader.answers g.R.Reader.noted g.met.R.Reader.chains _
    (evaluate (tree_of c.in-Binary.left) A c.args.variables.now) _
    (operated c.in-Binary.operator (evaluate (tree_of c.in-Binary.right)) A c.args.variables.now) _ c.in_ok-left-in-Binary.left _ _ _ c.operated.result
    (ap (λ z. evaluate z A c.args.variables.now) (ap tree_of c.in-Binary.is ∙ tree_of-Binary c.in-Binary.operator c.in-Binary.left c.in-Binary.right))
    (ap (λ z. evaluate (tree_of z) A c.args.variables.now) c.get-in-Binary.ensures) h
    (λ j. operated c.in-Binary.operator (evaluate (tree_of (c.get-in-Binary-2.ensures j))) (completed (h.keeps j)) (h.variables j) c.in_ok-left-in-Binary.left)
    c.operated.ensures

pub value_of-returns-in_err-start-in-Fold : goal.value_of-returns-in_err-start-in-Fold
value_of-returns-in_err-start-in-Fold g t c =
    let A = completed (g.R.Reader.answers c.args.reader.now) in
    let h = c.in_ok-list-in-Fold.ensures in
    let p = err_from_is_err_and c.from_residual-in_err-start-in-Fold.result c.from_residual-in_err-start-in-Fold.ensures.1 in
    let step : Value → ℤ → Evaluation = λ a z. evaluate (tree_of c.in-Fold.body) A (c.args.variables.now ++ a ∷ v.Int z ∷ []) in
    goes_by g.R.Reader.answers g.R.Reader.noted g.met.R.Reader.chains _
    (evaluate (tree_of c.in-Fold.list) A c.args.variables.now) _ _ _ c.in_ok-list-in-Fold.list _ _ _ c.from_residual-in_err-start-in-Fold.result
    (ap (λ z. evaluate z A c.args.variables.now) (ap tree_of c.in-Fold.is ∙ tree_of-Fold c.in-Fold.list c.in-Fold.start c.in-Fold.accumulator c.in-Fold.element c.in-Fold.body))
    (ap (λ z. evaluate (tree_of z) A c.args.variables.now) c.get-in-Fold.ensures) h refl
    (early_by g.R.Reader.answers g.R.Reader.noted _ (evaluate (tree_of c.in-Fold.start) A c.args.variables.now) _ (λ y. over_list step y (number_list c.in_ok-list-in-Fold.list)) _ _ _ c.from_residual-in_err-start-in-Fold.result refl
    (λ j. evaluate (tree_of (c.get-in-Fold-2.ensures j)) (completed (h.keeps j)) (h.variables j)) (p.1 ∙ ap Err p.2) c.in_err-start-in-Fold.ensures)

pub value_of-returns-in_ok-start-in-Fold : goal.value_of-returns-in_ok-start-in-Fold
value_of-returns-in_ok-start-in-Fold g t c =
    let A = completed (g.R.Reader.answers c.args.reader.now) in
    let h = c.in_ok-list-in-Fold.ensures in
    let k = c.in_ok-start-in-Fold.ensures in
    let step : Value → ℤ → Evaluation = λ a z. evaluate (tree_of c.in-Fold.body) A (c.args.variables.now ++ a ∷ v.Int z ∷ []) in
    let keeps = k.keeps ∙ h.keeps in
    let variables = k.variables ∙ h.variables in
    goes_by g.R.Reader.answers g.R.Reader.noted g.met.R.Reader.chains _
    (evaluate (tree_of c.in-Fold.list) A c.args.variables.now) _ _ _ c.in_ok-list-in-Fold.list _ _ _ c.over_list.result
    (ap (λ z. evaluate z A c.args.variables.now) (ap tree_of c.in-Fold.is ∙ tree_of-Fold c.in-Fold.list c.in-Fold.start c.in-Fold.accumulator c.in-Fold.element c.in-Fold.body))
    (ap (λ z. evaluate (tree_of z) A c.args.variables.now) c.get-in-Fold.ensures) h refl
    (goes_by g.R.Reader.answers g.R.Reader.noted g.met.R.Reader.chains _ (evaluate (tree_of c.in-Fold.start) A c.args.variables.now) _ (λ y. over_list step y (number_list c.in_ok-list-in-Fold.list)) _ c.in_ok-start-in-Fold.start _ _ _ c.over_list.result refl
    (λ j. evaluate (tree_of (c.get-in-Fold-2.ensures j)) (completed (h.keeps j)) (h.variables j)) k
    (λ j. over_list (λ (a : Value) z. evaluate (tree_of (c.get-in-Fold-3.ensures j)) (completed (keeps j)) (variables j ++ a ∷ v.Int z ∷ [])) c.in_ok-start-in-Fold.start (number_list c.in_ok-list-in-Fold.list))
    c.over_list.ensures)

pub value_of-returns-in_err-arguments-in-Call : goal.value_of-returns-in_err-arguments-in-Call
value_of-returns-in_err-arguments-in-Call g t c =
    let A = completed (g.R.Reader.answers c.args.reader.now) in
    let p = err_from_is_err_and c.from_residual-in_err-arguments-in-Call.result c.from_residual-in_err-arguments-in-Call.ensures.1 in
    by_same g.R.Reader.answers g.R.Reader.noted _ _ _ _ c.from_residual-in_err-arguments-in-Call.result
    (ap (λ l. evaluate_all (trees_of_terms l) A c.args.variables.now [] (λ xs. plain (called c.in-Call.function xs))) c.as_slice.ensures
    ∙ ap (λ z. evaluate z A c.args.variables.now) (sym (ap tree_of c.in-Call.is ∙ tree_of-Call c.in-Call.function c.in-Call.arguments)))
    (subst (Walks g.R.Reader.answers g.R.Reader.noted _ _ _) (sym (p.1 ∙ ap Err p.2)) (c.in_err-arguments-in-Call.ensures (λ xs. plain (called c.in-Call.function xs))))

pub value_of-returns-in_ok-arguments-in-Call : goal.value_of-returns-in_ok-arguments-in-Call
value_of-returns-in_ok-arguments-in-Call g t c =
    let A = completed (g.R.Reader.answers c.args.reader.now) in
    by_same g.R.Reader.answers g.R.Reader.noted _ _ _ _ c.called.result
    (ap (λ l. evaluate_all (trees_of_terms l) A c.args.variables.now [] (λ xs. plain (called c.in-Call.function xs))) c.as_slice.ensures
    ∙ ap (λ z. evaluate z A c.args.variables.now) (sym (ap tree_of c.in-Call.is ∙ tree_of-Call c.in-Call.function c.in-Call.arguments)))
    (c.in_ok-arguments-in-Call.ensures (λ xs. plain (called c.in-Call.function xs)) _ c.called.result
    (quiet g.R.Reader.answers g.R.Reader.noted g.met.R.Reader.stays _ _ c.called.result (subst (λ xs. Comes (called c.in-Call.function xs) c.called.result) c.as_slice-in-Call.ensures c.called.ensures)))

pub value_of-returns-in-Some-true : goal.value_of-returns-in-Some-true
value_of-returns-in-Some-true g t c =
    let A = completed (g.R.Reader.answers c.args.reader.now) in
    let h = c.in_ok-condition-in-If.ensures in
    let q : c.in_ok-condition-in-If.condition ≡ v.Bool true = c.in-Some-true.ensures ∙ ap v.Bool c.in-Some-true.field-0-test in
    goes_by g.R.Reader.answers g.R.Reader.noted g.met.R.Reader.chains _
    (evaluate (tree_of c.in-If.condition) A c.args.variables.now) _
    (chosen_by (evaluate (tree_of c.in-If.chosen)) (evaluate (tree_of c.in-If.otherwise)) A c.args.variables.now) _ c.in_ok-condition-in-If.condition _ _ _ c.value_of-in-Some-true.result
    (ap (λ z. evaluate z A c.args.variables.now) (ap tree_of c.in-If.is ∙ tree_of-If c.in-If.condition c.in-If.chosen c.in-If.otherwise))
    (ap (λ z. evaluate (tree_of z) A c.args.variables.now) c.get-in-If.ensures) h
    ((λ j. evaluate (tree_of (c.get-in-Some-true.ensures j)) (completed (h.keeps j)) (h.variables j))
    ∙ ap (chosen_by (evaluate (tree_of c.in-If.chosen)) (evaluate (tree_of c.in-If.otherwise)) A c.args.variables.now) (sym q))
    c.value_of-in-Some-true.ensures

pub value_of-returns-in-Some-false : goal.value_of-returns-in-Some-false
value_of-returns-in-Some-false g t c =
    let A = completed (g.R.Reader.answers c.args.reader.now) in
    let h = c.in_ok-condition-in-If.ensures in
    let q : c.in_ok-condition-in-If.condition ≡ v.Bool false = c.in-Some-false.ensures ∙ ap v.Bool c.in-Some-false.field-0-test in
    goes_by g.R.Reader.answers g.R.Reader.noted g.met.R.Reader.chains _
    (evaluate (tree_of c.in-If.condition) A c.args.variables.now) _
    (chosen_by (evaluate (tree_of c.in-If.chosen)) (evaluate (tree_of c.in-If.otherwise)) A c.args.variables.now) _ c.in_ok-condition-in-If.condition _ _ _ c.value_of-in-Some-false.result
    (ap (λ z. evaluate z A c.args.variables.now) (ap tree_of c.in-If.is ∙ tree_of-If c.in-If.condition c.in-If.chosen c.in-If.otherwise))
    (ap (λ z. evaluate (tree_of z) A c.args.variables.now) c.get-in-If.ensures) h
    ((λ j. evaluate (tree_of (c.get-in-Some-false.ensures j)) (completed (h.keeps j)) (h.variables j))
    ∙ ap (chosen_by (evaluate (tree_of c.in-If.chosen)) (evaluate (tree_of c.in-If.otherwise)) A c.args.variables.now) (sym q))
    c.value_of-in-Some-false.ensures

pub over_list-loop-number-preserved : goal.over_list-loop-number-preserved
over_list-loop-number-preserved g t c =
    let step : Value → ℤ → Evaluation = λ a z. evaluate (tree_of c.args.body.now) (completed (g.R.Reader.answers c.args.reader.now)) (c.args.variables.now ++ a ∷ v.Int z ∷ []) in
    let old = c.loop-number.invariant in
    let number : ℤ = get_or c.in-Some.numbers.now c.loop-number.number-index (pos 0) in
    let same : to_z w64 (of_z w64 number) ≡ number = search rules in
    let h = c.in_ok-accumulator.ensures in
    record {
      keeps = h.keeps ∙ old.keeps;
      variables = h.variables ∙ old.variables;
      rest = λ later res k. old.rest later res
          (each_more g.R.Reader.answers g.R.Reader.noted g.met.R.Reader.chains step c.loop-number.accumulator c.in_ok-accumulator.accumulator c.in-Some.numbers.now c.loop-number.number-index
          (record { reader = c.loop-number.reader; variables = c.loop-number.variables }) (record { reader = c.fold_step.new.reader; variables = c.fold_step.new.variables }) later res c.loop-number-test.true
          (by_same g.R.Reader.answers g.R.Reader.noted _ _ _ _ (Ok c.in_ok-accumulator.accumulator)
          (λ j. evaluate (tree_of c.args.body.now) (completed (old.keeps j)) (old.variables j ++ c.loop-number.accumulator ∷ v.Int (same j) ∷ [])) h) k);
    }

pub over_list-returns : goal.over_list-returns
over_list-returns g t c =
    let step : Value → ℤ → Evaluation = λ a z. evaluate (tree_of c.args.body.now) (completed (g.R.Reader.answers c.args.reader.now)) (c.args.variables.now ++ a ∷ v.Int z ∷ []) in
    by_same g.R.Reader.answers g.R.Reader.noted _ _ _ _ (Ok c.loop-number.accumulator) (ap (over_list step c.args.start) (sym c.in-Some.ensures))
    (c.loop-number.invariant.rest _ (Ok c.loop-number.accumulator)
    (each_done g.R.Reader.answers g.R.Reader.noted g.met.R.Reader.stays step c.loop-number.accumulator c.in-Some.numbers.now c.loop-number.number-index (record { reader = c.loop-number.reader; variables = c.loop-number.variables }) c.loop-number-test.false))

pub over_list-returns-in_err-accumulator : goal.over_list-returns-in_err-accumulator
over_list-returns-in_err-accumulator g t c =
    let step : Value → ℤ → Evaluation = λ a z. evaluate (tree_of c.args.body.now) (completed (g.R.Reader.answers c.args.reader.now)) (c.args.variables.now ++ a ∷ v.Int z ∷ []) in
    let old = c.loop-number.invariant in
    let number : ℤ = get_or c.in-Some.numbers.now c.loop-number.number-index (pos 0) in
    let same : to_z w64 (of_z w64 number) ≡ number = search rules in
    let why = c.in_err-accumulator.field-0.0 in
    let p = err_from_is_err_and c.from_residual.result c.from_residual.ensures.1 in
    subst (Walks g.R.Reader.answers g.R.Reader.noted _ _ _) (sym (p.1 ∙ ap Err p.2))
    (by_same g.R.Reader.answers g.R.Reader.noted _ _ _ _ (Err why) (ap (over_list step c.args.start) (sym c.in-Some.ensures))
    (old.rest _ (Err why)
    (each_early g.R.Reader.answers g.R.Reader.noted step c.loop-number.accumulator c.in-Some.numbers.now c.loop-number.number-index why
    (record { reader = c.loop-number.reader; variables = c.loop-number.variables }) (record { reader = c.fold_step.new.reader; variables = c.fold_step.new.variables }) c.loop-number-test.true
    (by_same g.R.Reader.answers g.R.Reader.noted _ _ _ _ (Err why)
    (λ j. evaluate (tree_of c.args.body.now) (completed (old.keeps j)) (old.variables j ++ c.loop-number.accumulator ∷ v.Int (same j) ∷ [])) c.in_err-accumulator.ensures))))

pub values_of-loop-term-preserved : goal.values_of-loop-term-preserved
values_of-loop-term-preserved g t c =
    let A = completed (g.R.Reader.answers c.args.reader.now) in
    let old = c.loop-term.invariant in
    let h = c.in_ok-value.ensures in
    record {
      keeps = h.keeps ∙ old.keeps;
      variables = h.variables ∙ old.variables;
      rest = λ next later res k. old.rest next later res
          (by_same g.R.Reader.answers g.R.Reader.noted _ _ _ later res
          (all_more g.R.Reader.answers g.R.Reader.noted A c.args.variables.now c.args.terms.now c.loop-term.term-index c.term-item.result c.loop-term.values next c.loop-term-test.true c.term-item.is)
          (goes_on g.R.Reader.answers g.R.Reader.noted g.met.R.Reader.chains (evaluate (tree_of c.term-item.result) A c.args.variables.now)
          (λ x. evaluate_all (trees_of_terms (drop (c.loop-term.term-index + 1) c.args.terms.now)) A c.args.variables.now (c.loop-term.values ++ x ∷ []) next) c.in_ok-value.value
          (record { reader = c.loop-term.reader; variables = c.loop-term.variables }) (record { reader = c.value_of.new.reader; variables = c.value_of.new.variables }) later res
          (by_same g.R.Reader.answers g.R.Reader.noted _ _ _ _ (Ok c.in_ok-value.value) (λ j. evaluate (tree_of c.term-item.result) (completed (old.keeps j)) (old.variables j)) h)
          (by_same g.R.Reader.answers g.R.Reader.noted _ _ _ later res (ap (λ d. evaluate_all (trees_of_terms (drop (c.loop-term.term-index + 1) c.args.terms.now)) A c.args.variables.now d next) c.in-Ok.ensures.ok) k)));
    }
