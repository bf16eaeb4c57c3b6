use Rattle.std.proofs.Common.{◌≡◌, drop, map}
use Rattle.app_tree.specs.DraftView.{write_of}
use Rattle.app_tree.specs.Faults.{first_with, writes_faults}
use Rattle.app_check.specs.inner.Spots.{spot_of}
use Rattle.app_check.proofs.statement_faults.writes.Given as goal

abbrev pub invariant-writes : goal.invariant-writes
invariant-writes l = first_with l.best (writes_faults (spot_of l.spot) (map write_of (drop l.inner-index l.written))) ≡ first_with l.fn.best (writes_faults (spot_of l.spot) (map write_of l.written))
