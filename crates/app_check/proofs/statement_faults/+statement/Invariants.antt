use Rattle.std.proofs.Common.{◌≡◌, drop}
use Rattle.app_tree.specs.DraftView.{draft_acts_of}
use Rattle.app_tree.specs.Faults.{first_with, acts_faults}
use Rattle.app_check.specs.inner.Spots.{spot_of}
use Rattle.app_check.proofs.statement_faults.+statement.Given as goal

abbrev pub invariant-block-statements : goal.invariant-block-statements
invariant-block-statements l = first_with l.best (acts_faults (spot_of l.spot) (draft_acts_of (drop l.inner-index l.written))) ≡ first_with l.fn.best (acts_faults (spot_of l.spot) (draft_acts_of l.written))
