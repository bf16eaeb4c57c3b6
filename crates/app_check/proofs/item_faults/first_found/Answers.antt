use Rattle.std.proofs.Common.{◌≡◌, suc, List, ap, ◌∙◌, subst, None, IfOk, map}
use Rattle.app_tree.specs.DraftTree.{WrittenItem}
use Rattle.app_tree.specs.DraftView.{written_item}
use Rattle.app_tree.specs.Faults.{first_with, items_faults}
use Rattle.app_tree.specs.declared.limits.TheConstants.{ITEM_LIMIT}
use Rattle.app_check.proofs.Counted.{counted_within, items_taken}
use Rattle.app_check.proofs.item_faults.first_found.Goals as goal

pub items-requires : goal.items-requires
items-requires c = rw (c.counted.ensures, c.requires) (counted_within (suc ITEM_LIMIT) c.args.written.now)

pub returns : goal.returns
returns c =
    subst (λ (items : List WrittenItem). IfOk c.items.result (λ found. found ≡ first_with None (items_faults c.args.table.now 0 items)))
    (ap (map written_item) c.counted.ensures ∙ items_taken (suc ITEM_LIMIT) c.args.written.now) c.items.ensures
