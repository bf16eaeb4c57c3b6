-- What the calls that make readers alive leave of a session, with the bodies that they ran.
use Rattle.std.specs.Prelude.{◌≡◌, ◌⊎◌, ℕ, ◌+◌, Bool, false, List, length, Option, Some, None, Result, Ok, Err}
use Rattle.rx_value.specs.declared.memory.Memory.{Memory}
use Rattle.rx_value.specs.declared.outcome.Outcome.{Outcome}
use Rattle.app_tree.specs.Tree.{Node, Shape}
use Rattle.app_tree.specs.Numbering.{is_output}
use Rattle.session_model.specs.Standing.{KeptSession, kept_reader}
use Rattle.session_steps.specs.Bringing.{Aim, Brings, Begins}

abbrev pub is_output_at : Option Node → Bool
is_output_at (Some i) = is_output i
is_output_at None = false

-- a reader was made alive, or was run: with these bodies, each of which is counted once
pub record Forced (app : Shape) (aim : Aim) (n : ℕ) (old new : KeptSession) (before after : ℕ) : Type 0 where
  pub bodies : List ℕ
  pub brings : Brings app aim bodies n old new
  pub counts : after ≡ before + length bodies

-- memory was wanting on the way, or as the outcome was copied at the end
pub record Broken (app : Shape) (aim : Aim) (n : ℕ) (old new : KeptSession) (before after : ℕ) : Type 0 where
  pub bodies : List ℕ
  pub begins : Brings app aim bodies n old new ⊎ Begins app aim bodies n old new
  pub counts : after ≡ before + length bodies

-- the answer is the outcome that is kept of the reader
abbrev pub Forces : Shape → Aim → ℕ → KeptSession → KeptSession → ℕ → ℕ → Result Outcome Memory → Type 0
Forces app aim n old new before after (Ok outcome) = Forced app aim n old new before after × (outcome ≡ (kept_reader new n).outcome)
Forces app aim n old new before after (Err e) = Broken app aim n old new before after
