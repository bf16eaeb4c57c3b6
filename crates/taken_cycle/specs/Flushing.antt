-- What contracts see of a Flusher, and what its calls answer.
use Rattle.std.specs.Prelude.{◌≡◌, ⊤, ℕ, Bool, true, false, List, Result, Ok, Err}
use Rattle.rx_value.specs.declared.memory.Memory.{Memory}
use Rattle.taken_cycle.specs.declared.texts.EventTexts.{EventTexts}
use Rattle.app_tree.specs.Held.{Held}
use Rattle.session_model.specs.State.{SessionState}
use Rattle.session_model.specs.Flush.{done, budget_spent, FlushResult}
use Rattle.taken_cycle.specs.declared.stage.Stage.{Stage}
use Rattle.taken_cycle.specs.declared.stage.Stage.TheVariants.{Open, Over}
use Rattle.taken_cycle.specs.declared.flushed.Flushed.{Flushed}
use Rattle.taken_cycle.specs.declared.flushed.Flushed.TheVariants as answer

pub record Flushing : Type 0 where
  pub app : Held
  pub state : SessionState
  pub stage : Stage

-- the answer says how the flush ended, with the texts that the event sends, and the Flusher is in the flush's state; nothing is said at want of memory
abbrev pub FlushGives : List (List ℕ) → FlushResult → SessionState → Flushed → Type 0
FlushGives wanted flushed state (answer.Done texts) = (flushed.end ≡ done) × (texts ≡ wanted) × (state ≡ flushed.state)
FlushGives wanted flushed state (answer.BudgetSpent texts) = (flushed.end ≡ budget_spent) × (texts ≡ wanted) × (state ≡ flushed.state)
FlushGives wanted flushed state answer.Memory = ⊤

-- the session goes on exactly where the flush was done
abbrev pub stage_after : Flushed → Stage
stage_after (answer.Done texts) = Open
stage_after (answer.BudgetSpent texts) = Over
stage_after answer.Memory = Over

-- the answer for what an event sends
abbrev pub flushed_by : List (List ℕ) → Bool → Flushed
flushed_by texts true = answer.BudgetSpent texts
flushed_by texts false = answer.Done texts

abbrev pub flushed_of : Result EventTexts Memory → Flushed
flushed_of (Ok sent) = flushed_by sent.texts sent.spent
flushed_of (Err e) = answer.Memory
