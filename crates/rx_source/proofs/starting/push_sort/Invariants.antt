use Rattle.std.proofs.Common.{◌≡◌, ◌++◌, drop, map}
use Rattle.app_tree.specs.Numbering.{declared_value}
use Rattle.app_tree.specs.Sorts.{items_of}
use Rattle.app_tree.specs.View.{node_of}
use Rattle.rx_source.proofs.starting.push_sort.Given as goal

abbrev pub invariant-loop-item : goal.invariant-loop-item
invariant-loop-item l = l.values.items ++ map declared_value (items_of l.sorts (map node_of (drop l.item-index l.items))) ≡ l.initial.values.items ++ map declared_value (items_of l.sorts (map node_of l.items))
