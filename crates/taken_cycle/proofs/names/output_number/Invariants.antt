use Rattle.app_tree.specs.Numbering.{number_from, is_reader, is_output}
use Rattle.taken_cycle.proofs.Sought.{Sought}
use Rattle.taken_cycle.proofs.names.output_number.Given as goal

abbrev pub invariant-loop-item : goal.invariant-loop-item
invariant-loop-item l = Sought (number_from is_reader is_output) l.name l.items l.number l.item-index
