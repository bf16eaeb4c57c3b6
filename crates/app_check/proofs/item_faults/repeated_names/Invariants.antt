use Rattle.std.proofs.Common.{◌≡◌, drop}
use Rattle.app_tree.specs.Faults.{first_with}
use Rattle.app_check.specs.inner.Bound.{refused_names}
use Rattle.app_check.proofs.item_faults.repeated_names.Given as goal

abbrev pub invariant-loop-name : goal.invariant-loop-name
invariant-loop-name l = first_with l.best (refused_names (drop l.name-index l.repeated)) ≡ first_with l.fn.best (refused_names l.repeated)
