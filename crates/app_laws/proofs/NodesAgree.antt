-- Equal answers to what a reader asks give an equal evaluation.
use Rattle.std.proofs.Common.{Bool, true, false, [], Option, Some, None, refl, ap}
use Rattle.std.specs.Prelude.{not, ◌&&◌, if◌then◌else◌}
use Rattle.rx_value.specs.declared.value.Value.{Value}
use Rattle.rx_value.specs.declared.outcome.Outcome.TheVariants as outcome
use Rattle.rx_value.specs.Functions.{is_null}
use Rattle.app_tree.specs.declared.item.Flags.{Flags}
use Rattle.app_tree.specs.Tree.{Tree, Trees, no_trees, tree, Node, input, value, task, reactive, event, text, plot, observe, on}
use Rattle.app_tree.specs.Evaluate.{Answers, Evaluation, plain, at_site, evaluate, site_count}
use Rattle.app_tree.specs.Fresh.{without_reads, rendered, cached, event_body, evaluate_node}
use Rattle.app_laws.proofs.Agreeing.{Agree, then_agree, site_agree, term_agrees, terms_agree}

module _ (a b : Answers) where
  unread : (e f : Evaluation) → Agree a b e f → Agree a b (without_reads e) (without_reads f)
  unread e f p h = ap without_reads (p h)

  cached_agree : (keys : Trees) (body : Tree) → Agree a b (cached keys body a) (cached keys body b)
  cached_agree no_trees body = term_agrees a b body []
  cached_agree (tree key more) body =
      terms_agree a b (tree key more) [] [] (λ xs. without_reads (evaluate body a [])) (λ xs. without_reads (evaluate body b [])) (λ xs. unread (evaluate body a []) (evaluate body b []) (term_agrees a b body []))

  event_agree : (flags : Flags) (e body : Tree) (x : Value) (d : Bool)
      → Agree a b (if d then plain outcome.Stop else at_site (site_count e) (evaluate body) a [] (a.site (site_count e))) (if d then plain outcome.Stop else at_site (site_count e) (evaluate body) b [] (b.site (site_count e)))
  event_agree flags e body x true h = refl
  event_agree flags e body x false h = site_agree a b (site_count e) (evaluate body) (term_agrees a b body) [] (a.site (site_count e)) (b.site (site_count e)) refl refl h

  pub node_agrees : (i : Option Node) → Agree a b (evaluate_node i a) (evaluate_node i b)
  node_agrees None h = refl
  node_agrees (Some (input name start)) h = refl
  node_agrees (Some (value name start)) h = refl
  node_agrees (Some (task name parameters body)) h = refl
  node_agrees (Some (reactive name keys body)) h = cached_agree keys body h
  node_agrees (Some (event name flags e body)) h =
      then_agree a b (evaluate e a []) (evaluate e b []) (event_body flags e body a) (event_body flags e body b) (term_agrees a b e []) (λ x. event_agree flags e body x (is_null x && not flags.allow_null)) h
  node_agrees (Some (text name shown)) h = cached_agree shown.keys shown.body h
  node_agrees (Some (plot name shown)) h = ap rendered (cached_agree shown.keys shown.body h)
  node_agrees (Some (observe name priority block)) h = refl
  node_agrees (Some (on name priority flags e block)) h = refl
