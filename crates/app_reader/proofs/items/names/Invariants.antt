use Rattle.std.proofs.Common.{◌<◌, length}
use Rattle.app_tokens.specs.declared.symbol.Symbol.TheVariants as symbol
use Rattle.app_reader.specs.State.{is_symbol_next}
use Rattle.app_reader.specs.Items.{further_name_at, names_at}
use Rattle.app_reader.specs.inner.Loop.{Leads}
use Rattle.app_reader.proofs.items.names.Given as goal

abbrev pub invariant-names : goal.invariant-names
invariant-names l = record {
  leads : Leads (λ b. b.1) (λ b. is_symbol_next symbol.Comma b.1) further_name_at (l.names, l.reader) (names_at l.fn.reader);
  shorter : length l.reader.tokens < length l.fn.reader.tokens;
}

abbrev pub decreases-names : goal.decreases-names
decreases-names l = length l.reader.tokens
