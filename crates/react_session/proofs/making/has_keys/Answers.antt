use Rattle.std.proofs.Common.{Some, sym, ap, ◌∙◌}
use Rattle.std.specs.Prelude.{is_some}
use Rattle.app_tree.specs.declared.item.Item.{Item}
use Rattle.app_tree.specs.View.{node_of, tree_of}
use Rattle.app_tree.specs.Cover.{cached_node}
use Rattle.react_session.proofs.KeysWritten.{keys_written}
use Rattle.react_session.proofs.making.has_keys.Goals as goal

pub returns-in-Reactive : goal.returns-in-Reactive
returns-in-Reactive c =
    keys_written c.in-Reactive.keys (tree_of c.in-Reactive.body) c.is_empty.result c.is_empty.ensures
    ∙ ap (λ (i : Item). is_some (cached_node (Some (node_of i)))) (sym c.in-Reactive.is)

pub returns-in-Text : goal.returns-in-Text
returns-in-Text c =
    keys_written c.in-Text.output.keys (tree_of c.in-Text.output.body) c.is_empty-in-Text.result c.is_empty-in-Text.ensures
    ∙ ap (λ (i : Item). is_some (cached_node (Some (node_of i)))) (sym c.in-Text.is)

pub returns-in-Plot : goal.returns-in-Plot
returns-in-Plot c =
    keys_written c.in-Plot.output.keys (tree_of c.in-Plot.output.body) c.is_empty-in-Plot.result c.is_empty-in-Plot.ensures
    ∙ ap (λ (i : Item). is_some (cached_node (Some (node_of i)))) (sym c.in-Plot.is)
