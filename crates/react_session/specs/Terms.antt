-- What a term of the observer that runs leaves of a session, with the bodies that were run for it.
use Rattle.std.specs.Prelude.{◌≡◌, ℕ, ◌+◌, Bool, List, length, Result, Ok, Err}
use Rattle.rx_value.specs.declared.memory.Memory.{Memory}
use Rattle.rx_value.specs.declared.outcome.Outcome.{Outcome}
use Rattle.app_tree.specs.Tree.{Tree, Shape}
use Rattle.session_model.specs.Standing.{KeptSession}
use Rattle.session_steps.specs.Acting.{Comes, ComesUntil}

-- the term of observer n came to this outcome: with these bodies, each of which is counted once
pub record TermEnded (app : Shape) (n : ℕ) (isolated : Bool) (t : Tree) (old new : KeptSession) (before after : ℕ) (outcome : Outcome) : Type 0 where
  pub bodies : List ℕ
  pub comes : Comes app n isolated t bodies old new outcome
  pub counts : after ≡ before + length bodies

-- memory was wanting on the way
pub record TermBroken (app : Shape) (n : ℕ) (t : Tree) (old new : KeptSession) (before after : ℕ) : Type 0 where
  pub bodies : List ℕ
  pub comes : ComesUntil app n t bodies old new
  pub counts : after ≡ before + length bodies

abbrev pub TermComes : Shape → ℕ → Bool → Tree → KeptSession → KeptSession → ℕ → ℕ → Result Outcome Memory → Type 0
TermComes app n isolated t old new before after (Ok outcome) = TermEnded app n isolated t old new before after outcome
TermComes app n isolated t old new before after (Err e) = TermBroken app n t old new before after
