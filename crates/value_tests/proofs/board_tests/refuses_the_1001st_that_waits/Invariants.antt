use Rattle.std.proofs.Common.{◌≡◌, length}
use Rattle.value_tests.proofs.board_tests.refuses_the_1001st_that_waits.Given as goal

abbrev pub invariant-loop-number : goal.invariant-loop-number
invariant-loop-number g l = length l.board ≡ 1

abbrev pub invariant-loop-waited : goal.invariant-loop-waited
invariant-loop-waited g l = length l.board ≡ 1
