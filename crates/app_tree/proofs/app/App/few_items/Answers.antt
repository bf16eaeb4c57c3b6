use Rattle.std.proofs.Common.{◌≤◌, List, length, sym, subst}
use Rattle.app_tree.specs.declared.item.Item.{Item}
use Rattle.app_tree.specs.declared.limits.TheConstants.{ITEM_LIMIT}
use Rattle.app_tree.proofs.FewItems.{few_items}
use Rattle.app_tree.proofs.app.App.few_items.Goals as goal

pub returns-clause-few : goal.returns-clause-few
returns-clause-few c = subst (λ (items : List Item). length items ≤ ITEM_LIMIT) (sym c.as_slice.ensures) (few_items (record { budget = c.self.inside.budget; items = c.self.inside.items }) c.self.invariant)
