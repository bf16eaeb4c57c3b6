use Rattle.std.proofs.Common.{sym}
use Rattle.rx_value.proofs.DecimalDigits.{stops-at}
use Rattle.rx_value.proofs.spelling.digits_number.Goals as goal

pub returns-in_default-clause-some : goal.returns-in_default-clause-some
returns-in_default-clause-some c =
    sym (stops-at _ _ _ c.loop-byte-test.true c.loop-byte.invariant.value c.loop-byte.invariant.digits (sym c.in_default.ensures.some))
