use Rattle.std.proofs.Common.{List, ℕ, subst}
use Rattle.std.specs.Str.{IsUtf8}
use Rattle.std.proofs.lemmas.Str.{IsUtf8-string_bytes}
use Rattle.app_printer.proofs.items.app_text.Goals as goal

pub returns-clause-utf8 : goal.returns-clause-utf8
returns-clause-utf8 c = let P : List ℕ → Type 0 = λ l. IsUtf8 l in subst P c.out-4.view_is (IsUtf8-string_bytes c.out-4.inside.text)
