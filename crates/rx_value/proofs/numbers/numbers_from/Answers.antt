use Rattle.std.proofs.Common.{◌≡◌, arith, ◌∙◌, ap, ◌++◌, ◌+◌, ◌-◌, List, ℤ, pos, ◌+ℤ◌, to_z, of_z, w64}
use Rattle.std.specs.Int.{w128}
use Rattle.std.proofs.lemmas.Int.{ints}
use Rattle.rx_value.specs.Functions.{numbers_from}
use Rattle.rx_value.proofs.Lists.{numbers_from-step}
use Rattle.rx_value.proofs.numbers.numbers_from.Goals as goal

pub loop-step-preserved : goal.loop-step-preserved
loop-step-preserved c =
    let first = to_z w64 (of_z w64 c.args.first) in
    let number = to_z w64 (of_z w64 (to_z w128 (of_z w128 (to_z w128 (of_z w128 c.from.result) +ℤ to_z w128 c.loop-step.step)))) in
    let number_is : number ≡ first +ℤ pos c.loop-step.step = omega (arith, ints, c.from.ensures, c.requires) in
    ap (λ (zs : List ℤ). zs ++ numbers_from (first +ℤ pos (c.loop-step.step + 1)) (c.args.count - (c.loop-step.step + 1))) c.in_ok-push.ensures.ok
    ∙ numbers_from-step first number c.args.count c.loop-step.step c.loop-step.list c.loop-step-test.true number_is
    ∙ c.loop-step.invariant
