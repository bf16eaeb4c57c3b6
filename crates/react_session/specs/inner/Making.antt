-- How a reader is made alive: what each call on the way needs, and what it leaves.
use Rattle.std.specs.Prelude.{◌≡◌, ℕ, zero, suc, ◌+◌, ◌*◌, ◌≤◌, Bool, true, false, List, length, Result, Ok, Err, is_ok, if◌then◌else◌}
use Rattle.rx_value.specs.declared.memory.Memory.{Memory}
use Rattle.rx_value.specs.declared.outcome.Outcome.{Outcome}
use Rattle.app_tree.specs.Tree.{Shape}
use Rattle.app_tree.specs.Numbering.{readers, reader, starting_values}
use Rattle.app_tree.specs.Fresh.{is_expression_at}
use Rattle.app_tree.specs.View.{shape_of}
use Rattle.app_tree.specs.Trace.{Every}
use Rattle.app_laws.specs.Proper.{IsProper}
use Rattle.session_model.specs.Standing.{KeptSession}
use Rattle.session_steps.specs.Keeping.{lives, shown_outcome}
use Rattle.session_steps.specs.Bringing.{Aim, Begins}
use Rattle.term_eval.specs.Lent.{Lent}
use Rattle.react_session.specs.Forcing.{Forced}
use Rattle.react_session.specs.Holding.{StandsForSome}
use Rattle.react_session.specs.Keeping.{Keeping}
use Rattle.react_session.specs.declared.attempt.Notes.{Notes}
use Rattle.react_session.specs.inner.Storing.{is_evaluated_at, stored_kept}

-- ---- the order in which readers are made alive

-- an expression reads expressions of smaller numbers, and an output any
abbrev pub bound_at : Shape → ℕ → ℕ
bound_at app n = if is_expression_at (reader app n) then n else length (readers app)

-- how many readers below a number aren't alive
abbrev pub dead_below : ℕ → KeptSession → ℕ
dead_below zero s = 0
dead_below (suc k) s = dead_below k s + (if lives s k then 0 else 1)

-- What is left to do for reader n. Of the calls for one reader on one session, a later one has a lower rank.
abbrev pub work_left : Shape → ℕ → KeptSession → ℕ → ℕ
work_left app n s rank = 6 * dead_below (bound_at app n) s + rank

-- ---- before

-- the Leave's key is of a reader whose bound is k or higher
abbrev pub IsFrom : Shape → ℕ → Lent → Type 0
IsFrom app k lent = k ≤ bound_at app lent.key.node

-- no memory was wanting, the asker is of this app, and what is out is of readers of this bound or a higher one
pub record MayMake (app : Shape) (whole : Bool) (asked : Shape) (bound : ℕ) (out : List Lent) : Type 0 where
  pub found : whole ≡ true
  pub of_app : asked ≡ app
  pub above : Every (IsFrom app bound) out

-- what is out is of readers above n
abbrev pub MayMakeFor : ℕ → Keeping → Shape → List Lent → Type 0
MayMakeFor n k asked out = MayMake (shape_of k.app) k.whole asked (suc (bound_at (shape_of k.app) n)) out

-- or of n itself
abbrev pub MayMakeBehind : ℕ → Keeping → Shape → List Lent → Type 0
MayMakeBehind n k asked out = MayMake (shape_of k.app) k.whole asked (bound_at (shape_of k.app) n) out

-- an output, or an expression that isn't alive
pub record MayRun (app : Shape) (n : ℕ) (s : KeptSession) : Type 0 where
  pub evaluated : is_evaluated_at (reader app n) ≡ true
  pub dead : is_expression_at (reader app n) ≡ true → lives s n ≡ false

pub record IsReady (app : Shape) (s : KeptSession) : Type 0 where
  pub proper : IsProper app
  pub sources : length s.values ≡ length (starting_values app.items)
  pub stands : StandsForSome app s

-- what is kept of a cached reader by the notes of its keys, where a cache has this outcome
abbrev pub shown_kept : ℕ → Notes → Outcome → Keeping → KeptSession
shown_kept n notes outcome k = stored_kept n notes.reached notes.isolated (shown_outcome (reader (shape_of k.app) n) outcome) k.session

-- ---- afterwards

-- memory was wanting on the way
pub record Stopped (app : Shape) (aim : Aim) (n : ℕ) (old new : KeptSession) (before after : ℕ) : Type 0 where
  pub bodies : List ℕ
  pub begins : Begins app aim bodies n old new
  pub counts : after ≡ before + length bodies

abbrev pub Comes : {A : Type 0} → Shape → Aim → ℕ → KeptSession → KeptSession → ℕ → ℕ → Result A Memory → Type 0
Comes app aim n old new before after (Ok x) = Forced app aim n old new before after
Comes app aim n old new before after (Err e) = Stopped app aim n old new before after

-- a reader was made alive or was run, or memory was wanting on the way; and these Leaves are out
pub record Makes {S A : Type 0} (follows : S → S → Type 0) (out : S → List Lent) (left : List Lent) (aim : Aim) (n : ℕ)
    (old new : Keeping) (asker asker' : S) (before after : ℕ) (result : Result A Memory) : Type 0 where
  pub app : new.app ≡ old.app
  pub comes : Comes (shape_of old.app) aim n old.session new.session before after result
  pub whole : new.whole ≡ is_ok result
  pub succeeds : follows asker' asker
  pub leaves : out asker' ≡ left
