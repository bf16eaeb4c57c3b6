-- What a reader is answered at its first run.
use Rattle.std.specs.Prelude.{ℕ, ◌==◌, List, map, Option, Some, None, slice_get, unwrap_or, if◌then◌else◌}
use Rattle.rx_value.specs.declared.outcome.Outcome.{Outcome}
use Rattle.rx_value.specs.declared.outcome.Outcome.TheVariants.{Stop}
use Rattle.app_tree.specs.declared.term.Read.{Read}
use Rattle.app_tree.specs.declared.term.Read.TheVariants as read
use Rattle.app_tree.specs.Current.{told_at}
use Rattle.app_tree.specs.Evaluate.{Answers}
use Rattle.app_tree.specs.Wanted.{Answering}
use Rattle.app_tree.specs.Fresh.{Known}
use Rattle.rx_source.specs.NumberedValues.{NumberedValues}

-- the outcomes alone
abbrev pub outcomes_of : List Known → List Outcome
outcomes_of known = map (λ k. k.outcome) known

-- an expression by what the expressions came to, a source by its current value
abbrev pub answer_by : NumberedValues → List Outcome → Read → Outcome
answer_by sources known (read.Expr n) = unwrap_or (slice_get known n) Stop
answer_by sources known r = told_at sources.numbers sources.values r

-- the one site that is not evaluated, if there is one, is stopped
abbrev pub site_by : Option ℕ → ℕ → Option Outcome
site_by None site = None
site_by (Some ignored) site = if ignored == site then Some Stop else None

abbrev pub answers_by : NumberedValues → List Outcome → Option ℕ → Answers
answers_by sources known ignored = record { read = answer_by sources known; site = site_by ignored }

-- nothing is wanted
abbrev pub answering_by : NumberedValues → List Outcome → Option ℕ → Answering
answering_by sources known ignored = record { read = λ r. Some (answer_by sources known r); site = site_by ignored }
