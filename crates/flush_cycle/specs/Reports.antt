-- What a Flusher tells of its last event.
use Rattle.std.specs.Prelude.{ℕ, suc, Bool, true, false, ◌&&◌, List, [], ◌∷◌, map, Option, Some, if◌then◌else◌}
use Rattle.rx_value.specs.declared.outcome.Outcome.{Outcome}
use Rattle.rx_value.specs.declared.outcome.Outcome.TheVariants.{Running}
use Rattle.app_tree.specs.Tree.{Shape}
use Rattle.app_tree.specs.Fresh.{is_among}
use Rattle.session_model.specs.Standing.{KeptOutput, KeptFlush}
use Rattle.session_model.specs.Flush.{Run}
use Rattle.session_model.specs.Texts.{batch_of}
use Rattle.flush_cycle.specs.declared.report.Made.{Made}
use Rattle.flush_cycle.specs.declared.report.Report.{Report}

-- the readers that ran, in order and with repeats, and what the values text tells of these runs
abbrev pub made_of : Shape → List Run → Made
made_of app runs = record { runs = map (λ run. run.number) runs; batch = batch_of app runs }

abbrev pub is_in_progress : Option Outcome → Bool
is_in_progress (Some Running) = true
is_in_progress _ = false

-- of the outputs from number n on, those that ran and whose last outcome is that a task runs, in rising order
abbrev pub in_progress_from : ℕ → List ℕ → List KeptOutput → List ℕ
in_progress_from n ran [] = []
in_progress_from n ran (o ∷ more) =
    if is_in_progress o.last && is_among n ran then n ∷ in_progress_from (suc n) ran more else in_progress_from (suc n) ran more

abbrev pub report_of : Bool → Made → KeptFlush → Report
report_of init made kept =
    record { init = init; runs = made.runs; pending = in_progress_from 0 made.runs kept.outputs; batch = made.batch }

-- no run was made
abbrev pub nothing_made : Made
nothing_made = record { runs = []; batch = record { outputs = []; messages = [] } }
