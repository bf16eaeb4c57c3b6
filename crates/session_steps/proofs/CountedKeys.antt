-- Which bodies count is told by the answers to what is asked.
use Rattle.std.proofs.Common.{◌≡◌, List, [], ◌∷◌, ◌++◌, Option, Some, None, refl, ap, ◌∙◌}
use Rattle.rx_value.specs.declared.value.Value.{Value}
use Rattle.rx_value.specs.declared.outcome.Outcome.{Outcome}
use Rattle.rx_value.specs.declared.outcome.Outcome.TheVariants as outcome
use Rattle.app_tree.specs.Tree.{Tree, Trees, no_trees, tree, Node, input, value, task, reactive, event, text, plot, observe, on}
use Rattle.app_tree.specs.Evaluate.{Answers, TraceEntry, Evaluation, then_by, evaluate, evaluate_all}
use Rattle.app_tree.specs.Fresh.{without_reads, cached, evaluate_node, ignored_site}
use Rattle.app_tree.specs.Keys.{after_key, keys_from}
use Rattle.app_tree.specs.Trace.{Every}
use Rattle.app_laws.specs.AskedLaws.{IsAnsweredAlike}
use Rattle.app_laws.proofs.Agreeing.{front, back, term_agrees}
use Rattle.session_model.specs.Bodies.{one_if_values, bodies_behind_keys, bodies_counted}

module _ (a b : Answers) where
  abbrev Alike : List TraceEntry → Type 0
  Alike = Every (IsAnsweredAlike a b)

  first_part : (e : Evaluation) (o : Outcome) (next : Value → Evaluation) → Alike (then_by e o next).asked → Alike e.asked
  first_part e (outcome.Val x) next h = front (IsAnsweredAlike a b) e.asked (next x).asked h
  first_part e (outcome.Fail t) next h = h
  first_part e outcome.Stop next h = h
  first_part e outcome.Cancel next h = h
  first_part e outcome.Running next h = h

  more_keys : (e : Evaluation) (o : Outcome) (next : Value → Evaluation) (more : Trees) (done : List Value)
      → ((x : Value) → Alike (next x).asked → keys_from more b (done ++ x ∷ []) ≡ keys_from more a (done ++ x ∷ []))
      → Alike (then_by e o next).asked → after_key done o (keys_from more b) ≡ after_key done o (keys_from more a)
  more_keys e (outcome.Val x) next more done k h = k x (back (IsAnsweredAlike a b) e.asked (next x).asked h)
  more_keys e (outcome.Fail t) next more done k h = refl
  more_keys e outcome.Stop next more done k h = refl
  more_keys e outcome.Cancel next more done k h = refl
  more_keys e outcome.Running next more done k h = refl

  pub keys_same : (keys : Trees) (done : List Value) (next : List Value → Evaluation) → Alike (evaluate_all keys a [] done next).asked → keys_from keys b done ≡ keys_from keys a done
  keys_same no_trees done next h = refl
  keys_same (tree t more) done next h =
      ap (λ (e : Evaluation). after_key done e.outcome (keys_from more b)) (term_agrees a b t [] (first_part (evaluate t a []) (evaluate t a []).outcome (λ x. evaluate_all more a [] (done ++ x ∷ []) next) h))
      ∙ more_keys (evaluate t a []) (evaluate t a []).outcome (λ x. evaluate_all more a [] (done ++ x ∷ []) next) more done (λ x k. keys_same more (done ++ x ∷ []) next k) h

  behind_same : (keys : Trees) (body : Tree) → Alike (cached keys body a).asked → bodies_behind_keys keys b ≡ bodies_behind_keys keys a
  behind_same no_trees body h = refl
  behind_same (tree key more) body h = ap one_if_values (keys_same (tree key more) [] (λ keys. without_reads (evaluate body a [])) h)

  -- of an event whose first run is ignored nothing has to be known
  pub count_same : (o : Option Node) → (ignored_site o ≡ None → Alike (evaluate_node o a).asked) → bodies_counted o b ≡ bodies_counted o a
  count_same None h = refl
  count_same (Some (input name start)) h = refl
  count_same (Some (value name start)) h = refl
  count_same (Some (task name parameters body)) h = refl
  count_same (Some (reactive name keys body)) h = behind_same keys body (h refl)
  count_same (Some (event name flags e body)) h = refl
  count_same (Some (text name shown)) h = behind_same shown.keys shown.body (h refl)
  count_same (Some (plot name shown)) h = behind_same shown.keys shown.body (h refl)
  count_same (Some (observe name priority block)) h = refl
  count_same (Some (on name priority flags e block)) h = refl
