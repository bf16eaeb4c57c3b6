use Rattle.app_tree.specs.Numbering.{number_from, is_input}
use Rattle.taken_cycle.proofs.Sought.{Sought}
use Rattle.taken_cycle.proofs.names.input_number.Given as goal

abbrev pub invariant-loop-item : goal.invariant-loop-item
invariant-loop-item l = Sought (number_from is_input is_input) l.name l.items l.number l.item-index
