use Rattle.std.proofs.Common.{◌≡◌, ◌+◌, ◌≤◌, drop, filter, length, map}
use Rattle.app_tree.specs.Numbering.{is_task}
use Rattle.app_tree.specs.View.{node_of}
use Rattle.flush_cycle.proofs.starting.task_count.Given as goal

abbrev pub invariant-loop-item : goal.invariant-loop-item
invariant-loop-item l = record {
  counted : l.tasks + length (filter is_task (map node_of (drop l.item-index l.items))) ≡ length (filter is_task (map node_of l.items));
  below : l.tasks ≤ l.item-index;
}
