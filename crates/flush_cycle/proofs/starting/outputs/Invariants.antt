use Rattle.std.proofs.Common.{◌≡◌, ◌++◌, drop, filter, map}
use Rattle.app_tree.specs.Numbering.{is_reader}
use Rattle.app_tree.specs.View.{node_of}
use Rattle.flush_cycle.specs.inner.Roles.{first_output}
use Rattle.flush_cycle.proofs.starting.outputs.Given as goal

abbrev pub invariant-loop-item : goal.invariant-loop-item
invariant-loop-item l =
    l.outputs.items ++ map first_output (filter is_reader (map node_of (drop l.item-index l.items)))
    ≡ map first_output (filter is_reader (map node_of l.items))
