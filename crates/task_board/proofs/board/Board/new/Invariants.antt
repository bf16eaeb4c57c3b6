use Rattle.std.proofs.Common.{◌≡◌}
use Rattle.std.specs.Prelude.{replicate}
use Rattle.task_board.specs.Board.{idle}
use Rattle.task_board.proofs.board.Board.new.Given as goal

abbrev pub invariant-loop-task : goal.invariant-loop-task
invariant-loop-task l = l.states.items ≡ replicate l._task idle
