use Rattle.std.proofs.Common.{◌≡◌, drop, map, slice_get}
use Rattle.app_tree.specs.Sorts.{items_of}
use Rattle.app_tree.specs.View.{node_of}
use Rattle.app_tree.proofs.numbering.item_of.Given as goal

abbrev pub invariant-loop-item : goal.invariant-loop-item
invariant-loop-item l = slice_get (items_of l.sorts (map node_of (drop l.item-index l.items))) l.left ≡ slice_get (items_of l.sorts (map node_of l.items)) l.number
