use Rattle.std.proofs.Common.{◌≡◌, ℕ, Option, Some, sym, subst}
use Rattle.std.specs.Prelude.{IfOk}
use Rattle.app_tree.specs.Tree.{Node}
use Rattle.app_tree.specs.Fresh.{evaluate_node, ignored_site}
use Rattle.app_tree.specs.View.{node_of}
use Rattle.fresh_eval.specs.inner.Answering.{answers_by}
use Rattle.fresh_eval.proofs.evaluating.reader_outcome.Goals as goal

pub returns : goal.returns
returns c =
    let sources = c.args.sources.now in
    let known = c.args.known.now in
    subst (λ (node : Option Node). IfOk c.item_outcome.result (λ outcome. outcome ≡ (evaluate_node node (answers_by sources known (ignored_site node))).outcome)) (sym c.reader-item.ensures)
    (subst (λ (ignored : Option ℕ). IfOk c.item_outcome.result (λ outcome. outcome ≡ (evaluate_node (Some (node_of c.reader-item.result.now)) (answers_by sources known ignored)).outcome))
    c.in_ok-ignored_site.ensures c.item_outcome.ensures)
