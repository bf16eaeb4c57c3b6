use Rattle.std.proofs.Common.{◌≡◌, ◌++◌, drop, map}
use Rattle.app_tree.specs.View.{node_of}
use Rattle.app_tree.specs.DraftView.{written_item}
use Rattle.app_tree.specs.Resolve.{resolved_item}
use Rattle.app_check.proofs.item_resolve.items.Given as goal

abbrev pub invariant-loop-inner : goal.invariant-loop-inner
invariant-loop-inner l = map node_of l.made ++ map (resolved_item l.table) (map written_item (drop l.inner-index l.written)) ≡ map (resolved_item l.table) (map written_item l.written)
