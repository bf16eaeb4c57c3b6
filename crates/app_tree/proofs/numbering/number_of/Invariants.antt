use Rattle.std.proofs.Common.{◌≡◌, ◌≤◌, drop, map}
use Rattle.app_tree.specs.Numbering.{number_from}
use Rattle.app_tree.specs.Sorts.{is_of}
use Rattle.app_tree.specs.View.{node_of}
use Rattle.app_tree.proofs.numbering.number_of.Given as goal

abbrev pub invariant-loop-item : goal.invariant-loop-item
invariant-loop-item l = record {
  rest : number_from (is_of l.counted) (is_of l.sought) l.number l.name (map node_of (drop l.item-index l.items)) ≡ number_from (is_of l.counted) (is_of l.sought) 0 l.name (map node_of l.items);
  below : l.number ≤ l.item-index;
}
