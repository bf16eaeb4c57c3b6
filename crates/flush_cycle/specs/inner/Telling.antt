-- How an event's answer is put together.
use Rattle.std.specs.Prelude.{◌≡◌, ℕ, Bool, true, false, List, [], ◌∷◌, ◌++◌, Option, Some, None, is_some, Result, Ok, Err}
use Rattle.rx_value.specs.declared.memory.Memory.{Memory}
use Rattle.flush_cycle.specs.declared.flushed.Flushed.{Flushed}
use Rattle.flush_cycle.specs.declared.flushed.Flushed.TheVariants as flushed
use Rattle.flush_cycle.specs.declared.flushing.End.{End}
use Rattle.flush_cycle.specs.declared.flushing.End.TheVariants as end
use Rattle.flush_cycle.specs.Reports.{report_of}
use Rattle.flush_cycle.specs.declared.report.Made.{Made}
use Rattle.flush_cycle.specs.declared.report.Report.{Report}
use Rattle.flush_cycle.specs.Working.{Working}
use Rattle.flush_cycle.specs.inner.Passing.{first_made, later_made, is_done}
use Rattle.flush_cycle.specs.declared.telling.Told.{Told}

-- a number stands behind the others, or is left out
abbrev pub with_noted : Bool → ℕ → List ℕ → List ℕ
with_noted true n numbers = numbers ++ n ∷ []
with_noted false n numbers = numbers

abbrev pub flushed_of : End → List (List ℕ) → Flushed
flushed_of end.Done texts = flushed.Done texts
flushed_of end.BudgetSpent texts = flushed.BudgetSpent texts
flushed_of (end.ObserverFailed why) texts = flushed.ObserverFailed why texts

-- the init has a label
abbrev pub texts_by : Option (List ℕ) → Made → Bool → List (List ℕ)
texts_by (Some label) made done = first_made label made.batch done
texts_by None made done = later_made made.runs made.batch done

pub record Tells (label : Option (List ℕ)) (passed : Result End Memory) (w : Working) (told : Told) : Type 0 where
  pub end : passed ≡ Ok told.end
  pub texts : told.texts ≡ texts_by label w.made (is_done told.end)
  pub report : told.report ≡ report_of (is_some label) w.made w.kept

abbrev pub flushed_by : Result Told Memory → Flushed
flushed_by (Ok told) = flushed_of told.end told.texts
flushed_by (Err e) = flushed.Memory

abbrev pub report_by : Option Report → Result Told Memory → Option Report
report_by old (Ok told) = Some told.report
report_by old (Err e) = old
