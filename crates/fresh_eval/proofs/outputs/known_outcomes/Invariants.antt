use Rattle.std.proofs.Common.{◌≡◌}
use Rattle.app_tree.specs.Fresh.{known_below, first_sites}
use Rattle.app_tree.specs.View.{shape_of}
use Rattle.fresh_eval.specs.inner.Answering.{outcomes_of}
use Rattle.fresh_eval.proofs.outputs.known_outcomes.Given as goal

abbrev pub invariant-loop-n : goal.invariant-loop-n
invariant-loop-n l = l.known ≡ outcomes_of (known_below (shape_of l.app) l.sources.values (first_sites (shape_of l.app)) l.n)
