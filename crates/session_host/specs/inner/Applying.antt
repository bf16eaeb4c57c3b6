-- What applying an event comes to.
use Rattle.std.specs.Prelude.{◌≡◌, ℕ, Bool, true, false, List, length, filter, Some, None}
use Rattle.app_tree.specs.Tree.{Shape}
use Rattle.session_model.specs.declared.reason.Reason.TheVariants as reason
use Rattle.session_model.specs.Alone.{Effect, flushes, refuses, effect_texts}
use Rattle.session_model.specs.State.{SessionState}
use Rattle.session_model.specs.Flush.{FlushResult}
use Rattle.flush_cycle.specs.Flushing.{Flushing, EndsBy, IfDone, IfNotMemory, StartsBehind, stage_after}
use Rattle.flush_cycle.specs.Waits.{IsSettled}
use Rattle.flush_cycle.specs.declared.flushed.Flushed.{Flushed}
use Rattle.flush_cycle.specs.declared.flushed.Flushed.TheVariants as flushed
use Rattle.flush_cycle.specs.declared.stage.Stage.{Stage}
use Rattle.flush_cycle.specs.declared.stage.Stage.TheVariants.{Open}
use Rattle.session_host.specs.Journaling.{is_item}
use Rattle.session_host.specs.Hosting.{Hosting}
use Rattle.session_host.specs.declared.applying.Applied.{Applied}
use Rattle.session_host.specs.declared.applying.Applied.TheVariants.{Unread, Refused, Came}
use Rattle.session_host.specs.declared.turned.Turned.{Turned}
use Rattle.session_host.specs.inner.Sending.{Sending, Closes}

-- whether the init was applied
abbrev pub is_open : Stage → Bool
is_open Open = true
is_open _ = false

-- ---- by its effect in a state that the Flusher stood for

-- the Flusher has made this flush, with these texts
pub record MakesFlush (app : Shape) (init : Bool) (old new : Flushing) (before after : ℕ) (state : SessionState)
    (f : FlushResult) (texts : List (List ℕ)) (answer : Flushed) : Type 0 where
  pub app_stays : new.app ≡ old.app
  pub stage : new.stage ≡ stage_after answer
  pub ends : EndsBy app init old new before after state f texts answer
  pub settled : IfDone answer (IsSettled app new.kept)
  pub jobs : IfNotMemory answer (StartsBehind old new)

-- nothing was done
pub record DoesNothing (old new : Flushing) (before after : ℕ) : Type 0 where
  pub flusher : new ≡ old
  pub bodies : after ≡ before

abbrev pub Does : Shape → List ℕ → SessionState → Effect → Flushing → Flushing → ℕ → ℕ → Applied → Type 0
Does app label state effect old new before after Unread = DoesNothing old new before after
Does app label state (refuses cause) old new before after (Refused why) = (why ≡ cause) × DoesNothing old new before after
Does app label state (flushes init f) old new before after (Came answer) =
    MakesFlush app init old new before after state f (effect_texts app label (flushes init f)) answer
Does app label state effect old new before after applied = ⊥

-- ---- what the client is told of it

-- its items are numbered from 1, and the last one is refused
abbrev pub Says : Hosting → Hosting → Applied → Turned → Type 0
Says old new Unread answer = Closes old new reason.Memory answer
Says old new (Refused cause) answer = Closes old new (reason.Refused (length (filter is_item old.journal)) cause) answer
Says old new (Came flushed.Memory) answer = Closes old new reason.Memory answer
Says old new (Came (flushed.Done texts)) answer = Sending old new texts None answer
Says old new (Came (flushed.BudgetSpent texts)) answer = Sending old new texts (Some reason.BudgetSpent) answer
Says old new (Came (flushed.ObserverFailed why texts)) answer =
    Sending old new texts (Some (reason.ObserverFailed why)) answer
