use Rattle.std.proofs.Common.{◌≡◌, ◌++◌, drop}
use Rattle.app_tree.specs.Fresh.{first_outcome}
use Rattle.app_tree.specs.Numbering.{readers}
use Rattle.app_tree.specs.View.{shape_of}
use Rattle.fresh_eval.specs.FirstOutcomes.{outcomes_from, first_outcomes}
use Rattle.fresh_eval.proofs.outputs.outputs_of.Given as goal

abbrev pub invariant-loop-n : goal.invariant-loop-n
invariant-loop-n l =
    l.outcomes ++ outcomes_from (first_outcome (shape_of l.app) l.sources.values) l.n (drop l.n (readers (shape_of l.app)))
    ≡ first_outcomes (shape_of l.app) l.sources.values
