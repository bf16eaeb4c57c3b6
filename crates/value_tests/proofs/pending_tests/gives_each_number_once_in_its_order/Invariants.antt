use Rattle.std.proofs.Common.{◌≡◌, length}
use Rattle.value_tests.proofs.pending_tests.gives_each_number_once_in_its_order.Given as goal

abbrev pub invariant-loop-n : goal.invariant-loop-n
invariant-loop-n g l = length l.pending.priorities ≡ 300
