-- Who waits for a flush, said of what a Flusher keeps.
use Rattle.std.specs.Prelude.{◌≡◌, ℕ, Bool, true, false, not, ◌&&◌, Option, Some, None}
use Rattle.app_tree.specs.Tree.{Node, Shape}
use Rattle.app_tree.specs.Numbering.{reader, is_output}
use Rattle.app_tree.specs.Fresh.{fresh_outcome}
use Rattle.session_model.specs.State.{SessionState, first_reader, isolated_of}
use Rattle.session_model.specs.Flush.{is_wanted}
use Rattle.session_model.specs.Standing.{KeptFlush, kept_output, StandsWholly}
use Rattle.session_steps.specs.Keeping.{lives}

-- a flush runs observers, and outputs that are shown or run while they are hidden
abbrev pub is_wanted_at : Option Node → Bool → Bool
is_wanted_at None shown = false
is_wanted_at (Some i) shown = is_wanted i (record first_reader { shown = shown })

-- such a reader waits where it isn't alive
abbrev pub waits_in : Shape → KeptFlush → ℕ → Bool
waits_in app kept n = is_wanted_at (reader app n) (kept_output kept n).shown && not (lives kept.session n)

-- Nobody waits; and in each state that the Flusher stands for, each output that is shown, or that runs while it is hidden, has
-- last come to what it comes to afresh.
pub record IsSettled (app : Shape) (kept : KeptFlush) : Type 0 where
  pub quiet : (n : ℕ) → waits_in app kept n ≡ false
  pub fresh : (state : SessionState) → StandsWholly app kept state → (n : ℕ) (i : Node) → reader app n ≡ Some i
      → is_output i ≡ true → is_wanted_at (Some i) (kept_output kept n).shown ≡ true
      → (kept_output kept n).last ≡ Some (fresh_outcome app state.values (isolated_of state) n)
