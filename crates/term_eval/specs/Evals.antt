-- What an evaluation over a reader answers.
use Rattle.std.specs.Prelude.{◌≡◌, ⊤, List, Some, None}
use Rattle.app_tree.specs.declared.term.Read.TheVariants.{Expr}
use Rattle.app_tree.specs.Evaluate.{TraceEntry, Evaluation}
use Rattle.app_tree.specs.Wanted.{Answering, first_wanted, up_to_wanted}
use Rattle.term_eval.specs.declared.evaled.Evaled.{Evaled}
use Rattle.term_eval.specs.declared.evaled.Evaled.TheVariants.{Done, Wants, Memory}

-- it is done where nothing is wanted, and the reader was asked what the evaluation asks; it wants the first read that is
-- wanted, and the reader was asked what comes up to it and with it
abbrev pub Evals : {S : Type 0} → (S → Answering) → (S → List TraceEntry → S → Type 0) → Evaluation → S → S → Evaled → Type 0
Evals answers noted e old new (Done outcome) = (e.outcome ≡ outcome) × (first_wanted (answers old) e.asked ≡ None) × noted old e.asked new
Evals answers noted e old new (Wants m) = (first_wanted (answers old) e.asked ≡ Some (Expr m)) × noted old (up_to_wanted (answers old) e.asked) new
Evals answers noted e old new Memory = ⊤
