use Rattle.std.proofs.Common.{◌<◌, length}
use Rattle.app_tokens.specs.declared.symbol.Symbol.TheVariants as symbol
use Rattle.app_reader.specs.State.{is_symbol_next}
use Rattle.app_reader.specs.Constants.{further_number_at, numbers_at}
use Rattle.app_reader.specs.inner.Loop.{Leads}
use Rattle.app_reader.proofs.constants.numbers.Given as goal

abbrev pub invariant-numbers : goal.invariant-numbers
invariant-numbers l = record {
  leads : Leads (λ b. b.1) (λ b. is_symbol_next symbol.Comma b.1) further_number_at (l.numbers, l.reader) (numbers_at l.fn.reader);
  shorter : length l.reader.tokens < length l.fn.reader.tokens;
}

abbrev pub decreases-numbers : goal.decreases-numbers
decreases-numbers l = length l.reader.tokens
