-- What one evaluation over a session answers and notes.
use Rattle.std.specs.Prelude.{ℕ, ◌==◌, Option, Some, None, if◌then◌else◌}
use Rattle.rx_value.specs.declared.outcome.Outcome.{Outcome}
use Rattle.rx_value.specs.declared.outcome.Outcome.TheVariants.{Stop}
use Rattle.app_tree.specs.View.{shape_of}
use Rattle.app_tree.specs.Wanted.{Answering}
use Rattle.session_steps.specs.Keeping.{kept_answer}
use Rattle.react_session.specs.Keeping.{Keeping}

-- the one site that is not evaluated, if there is one, is kept as stopped
abbrev pub site_by : Option ℕ → ℕ → Option Outcome
site_by None site = None
site_by (Some ignored) site = if ignored == site then Some Stop else None

abbrev pub answering_by : Keeping → Option ℕ → Answering
answering_by s ignored = record { read = kept_answer (shape_of s.app) s.session; site = site_by ignored }
