use Rattle.app_tree.specs.Numbering.{is_output}
use Rattle.taken_cycle.proofs.Counted.{Counted}
use Rattle.taken_cycle.proofs.sizes.output_count.Given as goal

abbrev pub invariant-loop-item : goal.invariant-loop-item
invariant-loop-item l = Counted is_output l.items l.count l.item-index
