use Rattle.std.proofs.Common.{◌≡◌, ◌++◌, drop, map}
use Rattle.app_tree.specs.DraftView.{written_item}
use Rattle.app_tree.specs.Declarations.{declarations}
use Rattle.app_check.specs.inner.Tables.{declared_of}
use Rattle.app_check.proofs.table.entries_of.Given as goal

abbrev pub invariant-loop-item : goal.invariant-loop-item
invariant-loop-item l = map declared_of l.entries.items ++ declarations (map written_item (drop l.item-index l.items)) ≡ declarations (map written_item l.items)
