use Rattle.std.proofs.Common.{arith}
use Rattle.app_check.proofs.uncovered.first_uncovered.Goals as goal

pub overflow_add-number : goal.overflow_add-number
overflow_add-number c =
    omega (arith, c.requires.few, c.items.invariant.count)
