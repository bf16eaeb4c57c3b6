use Rattle.std.proofs.Common.{◌≡◌, ◌++◌, drop, map}
use Rattle.app_tree.specs.View.{node_of}
use Rattle.app_tree.specs.Numbering.{unknown_sizes}
use Rattle.rx_source.proofs.starting.push_sizes.Given as goal

abbrev pub invariant-loop-item : goal.invariant-loop-item
invariant-loop-item l = l.values.items ++ unknown_sizes (map node_of (drop l.item-index l.items)) ≡ l.initial.values.items ++ unknown_sizes (map node_of l.items)
