use Rattle.std.proofs.Common.{◌≡◌, Some, sym, subst}
use Rattle.std.specs.Prelude.{IfOk}
use Rattle.app_tree.specs.declared.item.Item.{Item}
use Rattle.app_tree.specs.Fresh.{evaluate_node}
use Rattle.app_tree.specs.View.{node_of}
use Rattle.fresh_eval.specs.inner.Answering.{answers_by}
use Rattle.fresh_eval.proofs.evaluating.item_outcome.Goals as goal

pub returns-in-Event : goal.returns-in-Event
returns-in-Event c =
    let reading = c.args.reading.now in
    subst (λ (item : Item). IfOk c.event_outcome.result (λ outcome. outcome ≡ (evaluate_node (Some (node_of item)) (answers_by reading.sources.now reading.known.now reading.ignored)).outcome))
    (sym c.in-Event.is) c.event_outcome.ensures
