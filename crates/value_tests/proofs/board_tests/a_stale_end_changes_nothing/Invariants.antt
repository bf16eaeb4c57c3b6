use Rattle.std.proofs.Common.{◌≡◌, length}
use Rattle.value_tests.proofs.board_tests.a_stale_end_changes_nothing.Given as goal

abbrev pub invariant-loop-number : goal.invariant-loop-number
invariant-loop-number g l = length l.board ≡ 2
