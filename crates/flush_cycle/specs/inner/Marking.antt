-- Which readers wait, where a flush runs them.
use Rattle.std.specs.Prelude.{◌≡◌, ℕ, Bool, false, ◌&&◌, ◌||◌, List, length, None, slice_index_or}
use Rattle.app_tree.specs.Fresh.{is_among}
use Rattle.pending_set.specs.Waiting.{Waiting, waits_at}
use Rattle.flush_cycle.specs.declared.output.Role.TheVariants.{Never}
use Rattle.flush_cycle.specs.declared.output.OutputState.{OutputState}
use Rattle.flush_cycle.specs.inner.Roles.{is_run_in}

-- behind the last reader a flush runs nothing
abbrev pub no_output : OutputState
no_output = record { role = Never; shown = false; last = None }

-- whether a flush runs reader n where it isn't alive
abbrev pub runs_at : List OutputState → ℕ → Bool
runs_at outputs n = is_run_in (slice_index_or outputs n no_output).role (slice_index_or outputs n no_output).shown

-- those that are marked wait too, where a flush runs them
pub record AddsMarked (outputs : List OutputState) (marked : List ℕ) (old new : Waiting) : Type 0 where
  pub priorities : new.priorities ≡ old.priorities
  pub size : length new.waits ≡ length old.waits
  pub waits : (n : ℕ) → waits_at new n ≡ (waits_at old n || (is_among n marked && runs_at outputs n))
