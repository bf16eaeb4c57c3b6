use Rattle.std.proofs.Common.{◌≡◌, ◌++◌, drop, filter, map}
use Rattle.app_tree.specs.Numbering.{is_reader}
use Rattle.app_tree.specs.View.{node_of}
use Rattle.session_model.specs.Flush.{priority_of}
use Rattle.flush_cycle.proofs.starting.priorities.Given as goal

abbrev pub invariant-loop-item : goal.invariant-loop-item
invariant-loop-item l =
    l.priorities.items ++ map priority_of (filter is_reader (map node_of (drop l.item-index l.items)))
    ≡ map priority_of (filter is_reader (map node_of l.items))
