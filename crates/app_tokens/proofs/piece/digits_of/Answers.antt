use Rattle.app_tokens.proofs.Digits.{take-length-take_while, AreDigits-take_while}
use Rattle.rx_value.specs.Names.{is_digit}
use Rattle.app_tokens.proofs.piece.digits_of.Goals as goal

pub returns-clause-spelled : goal.returns-clause-spelled
returns-clause-spelled c = rw c.digits_size-size.ensures (take-length-take_while is_digit c.args.bytes.now)

pub returns-clause-digits : goal.returns-clause-digits
returns-clause-digits c =
    rw (c.digits_size-size.ensures, take-length-take_while is_digit c.args.bytes.now) (AreDigits-take_while c.args.bytes.now)
