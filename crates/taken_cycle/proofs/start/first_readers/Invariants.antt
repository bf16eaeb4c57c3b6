use Rattle.std.proofs.Common.{◌≡◌, ◌++◌, drop, map, filter}
use Rattle.app_tree.specs.View.{node_of}
use Rattle.app_tree.specs.Numbering.{is_reader}
use Rattle.session_model.specs.State.{first_readers}
use Rattle.taken_cycle.proofs.start.first_readers.Given as goal

abbrev pub invariant-loop-item : goal.invariant-loop-item
invariant-loop-item l = l.readers.items ++ first_readers (filter is_reader (map node_of (drop l.item-index l.items))) ≡ first_readers (filter is_reader (map node_of l.items))
