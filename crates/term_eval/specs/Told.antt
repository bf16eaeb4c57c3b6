-- What the calls of a reader tell. `P` is what holds of the reader's earlier and later state where it answers.
use Rattle.std.specs.Prelude.{◌≡◌, ⊤, ℕ, Some, None}
use Rattle.app_tree.specs.declared.term.Read.{Read}
use Rattle.app_tree.specs.declared.term.Read.TheVariants.{Expr}
use Rattle.app_tree.specs.Evaluate.{TraceEntry, given, enters}
use Rattle.app_tree.specs.Wanted.{Answering}
use Rattle.term_eval.specs.declared.reader.Answer.{Answer}
use Rattle.term_eval.specs.declared.reader.Answer.TheVariants as answer
use Rattle.term_eval.specs.declared.reader.Entered.{Entered}
use Rattle.term_eval.specs.declared.reader.Entered.TheVariants as entered

-- a read is given what the answering says, or its expression is wanted exactly where the answering has nothing
abbrev pub TellsRead : Answering → Read → Answer → Type 0 → Type 0
TellsRead a r (answer.Given outcome) P = (a.read r ≡ Some outcome) × P
TellsRead a r (answer.Wants m) P = (a.read r ≡ None) × (r ≡ Expr m) × P
TellsRead a r answer.Memory P = ⊤

-- a site is given what the answering says, or its term is evaluated exactly where the answering has nothing
abbrev pub TellsSite : Answering → ℕ → Entered → (TraceEntry → Type 0) → Type 0
TellsSite a site (entered.Given outcome) P = (a.site site ≡ Some outcome) × P (given site)
TellsSite a site entered.Run P = (a.site site ≡ None) × P (enters site)
TellsSite a site entered.Memory P = ⊤
