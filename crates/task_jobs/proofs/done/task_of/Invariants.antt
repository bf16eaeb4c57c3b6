use Rattle.std.proofs.Common.{◌≡◌, drop, filter, map, slice_get}
use Rattle.app_tree.specs.Numbering.{is_task}
use Rattle.app_tree.specs.View.{node_of}
use Rattle.task_jobs.proofs.done.task_of.Given as goal

abbrev pub invariant-loop-item : goal.invariant-loop-item
invariant-loop-item l = slice_get (filter is_task (map node_of (drop l.item-index l.items))) l.left ≡ slice_get (filter is_task (map node_of l.items)) l.number
