use Rattle.std.proofs.Common.{arith, rules, pos, get_or, w64, FitsSigned}
use Rattle.std.proofs.lemmas.Int.{ints}
use Rattle.rx_value.proofs.Lists.{sum_of-drop}
use Rattle.rx_value.proofs.numbers.sum_of.Goals as goal

pub loop-number-preserved : goal.loop-number-preserved
loop-number-preserved c =
    let from = c.from-sum.ensures in
    let fits : FitsSigned w64 (get_or c.args.numbers.now c.loop-number.number-index (pos 0)) = search rules in
    let next = sum_of-drop c.args.numbers.now c.loop-number.number-index c.loop-number-test.true in
    record { so_far = omega (arith, ints, next); above = omega (arith, ints); below = omega (arith, ints) }
