use Rattle.std.proofs.Common.{◌≡◌, drop, map}
use Rattle.app_tree.specs.View.{node_of}
use Rattle.taken_cycle.specs.Built.{unbuilt_from}
use Rattle.taken_cycle.proofs.forms.first_unbuilt.Given as goal

abbrev pub invariant-loop-place : goal.invariant-loop-place
invariant-loop-place l = unbuilt_from l.place (map node_of (drop l.place l.items)) ≡ unbuilt_from 0 (map node_of l.items)
