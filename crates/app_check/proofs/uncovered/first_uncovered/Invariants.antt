use Rattle.std.proofs.Common.{◌≡◌, ◌+◌, length}
use Rattle.app_tree.specs.View.{shape_of}
use Rattle.app_tree.specs.Numbering.{readers}
use Rattle.app_check.specs.CachedReaders.{uncovered_from}
use Rattle.app_check.proofs.LastChecks.{left_readers}
use Rattle.app_check.proofs.uncovered.first_uncovered.Given as goal

-- the readers that are left have the numbers from this one on
abbrev pub invariant-items : goal.invariant-items
invariant-items l = record {
  first : uncovered_from (shape_of l.app) l.number (left_readers l.item-index l.written) ≡ uncovered_from (shape_of l.app) 0 (left_readers 0 l.written);
  count : l.number + length (left_readers l.item-index l.written) ≡ length (readers (shape_of l.app));
}
