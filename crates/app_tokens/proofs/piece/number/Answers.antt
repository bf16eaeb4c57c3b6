use Rattle.std.proofs.Common.{arith, get_or, ◌*◌, ◌+◌, ◌-◌, drop}
use Rattle.app_tokens.proofs.Digits.{value_after-grows, value_after-drop}
use Rattle.app_tokens.proofs.piece.number.Goals as goal

pub returns-then-value-digit : goal.returns-then-value-digit
returns-then-value-digit c =
    let d = get_or c.args.digits.now c.loop-digit.digit-index 0 in
    omega (arith, c.if-value-digit.true, c.loop-digit.invariant.spelled, value_after-drop c.loop-digit.value c.loop-digit.digit-index c.args.digits.now c.loop-digit-test.true, value_after-grows (c.loop-digit.value * 10 + (d - 48)) (drop (c.loop-digit.digit-index + 1) c.args.digits.now))
