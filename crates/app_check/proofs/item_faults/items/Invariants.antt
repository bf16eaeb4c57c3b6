use Rattle.std.proofs.Common.{◌≡◌, drop, map, None}
use Rattle.app_tree.specs.DraftView.{written_item}
use Rattle.app_tree.specs.Faults.{first_with, items_faults}
use Rattle.app_check.proofs.item_faults.items.Given as goal

abbrev pub invariant-loop-place : goal.invariant-loop-place
invariant-loop-place l = first_with l.best (items_faults l.table l.place (map written_item (drop l.place l.written))) ≡ first_with None (items_faults l.table 0 (map written_item l.written))
