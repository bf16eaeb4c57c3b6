use Rattle.app_tokens.proofs.Digits.{take-length-take_while}
use Rattle.rx_value.specs.Names.{is_of_word}
use Rattle.app_tokens.proofs.piece.word_of.Goals as goal

pub returns : goal.returns
returns c = rw c.word_size-size.ensures (take-length-take_while is_of_word c.args.bytes.now)
