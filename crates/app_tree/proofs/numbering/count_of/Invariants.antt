use Rattle.std.proofs.Common.{◌≡◌, ◌+◌, ◌≤◌, drop, length, map}
use Rattle.app_tree.specs.Sorts.{items_of}
use Rattle.app_tree.specs.View.{node_of}
use Rattle.app_tree.proofs.numbering.count_of.Given as goal

abbrev pub invariant-loop-item : goal.invariant-loop-item
invariant-loop-item l = record {
  counted : l.found + length (items_of l.sorts (map node_of (drop l.item-index l.items))) ≡ length (items_of l.sorts (map node_of l.items));
  below : l.found ≤ l.item-index;
}
