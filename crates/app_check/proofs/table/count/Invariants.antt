use Rattle.std.proofs.Common.{◌≡◌, ◌+◌, ◌≤◌, drop, map}
use Rattle.app_tree.specs.Declarations.{count_of}
use Rattle.app_tree.specs.Sorts.{sorts_of}
use Rattle.app_check.specs.inner.Tables.{declared_of}
use Rattle.app_check.proofs.table.count.Given as goal

abbrev pub invariant-loop-entry : goal.invariant-loop-entry
invariant-loop-entry l = record {
  counted : l.found + count_of (sorts_of l.sorts) (map declared_of (drop l.entry-index l.entries)) ≡ count_of (sorts_of l.sorts) (map declared_of l.entries);
  below : l.found ≤ l.entry-index;
}
