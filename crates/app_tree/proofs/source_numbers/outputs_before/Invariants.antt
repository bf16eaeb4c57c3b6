use Rattle.std.proofs.Common.{◌≡◌, ◌≤◌, ◌++◌, drop, filter, map}
use Rattle.app_tree.specs.Numbering.{is_reader, outputs_before_each}
use Rattle.app_tree.specs.View.{node_of}
use Rattle.app_tree.proofs.source_numbers.outputs_before.Given as goal

abbrev pub invariant-loop-item : goal.invariant-loop-item
invariant-loop-item l = record {
  rest : l.before.items ++ outputs_before_each l.outputs (filter is_reader (map node_of (drop l.item-index l.items))) ≡ outputs_before_each 0 (filter is_reader (map node_of l.items));
  below : l.outputs ≤ l.item-index;
}
