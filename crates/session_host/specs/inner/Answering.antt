-- An event that is to be journaled and answered, and what becomes of it.
use Rattle.std.specs.Prelude.{◌≡◌, ◌<◌, ⊤, ℕ, false, [], ◌∷◌, ◌++◌, length, Option, Some, None}
use Rattle.app_tree.specs.View.{shape_of}
use Rattle.rx_ports.specs.Faults.{Rose}
use Rattle.session_model.specs.declared.event.Event.{Event}
use Rattle.session_model.specs.declared.reason.Reason.{Reason}
use Rattle.session_model.specs.declared.reason.Reason.TheVariants as reason
use Rattle.session_model.specs.Alone.{state_after}
use Rattle.session_model.specs.Faithful.{LinkRecord, IsFaithful, IsOfRunning, client_items}
use Rattle.session_model.specs.Journal.{is_full}
use Rattle.flush_cycle.specs.Flushing.{Flushing}
use Rattle.session_host.specs.Hosting.{Hosting}
use Rattle.session_host.specs.Keeping.{GoesOn, IsHosted}
use Rattle.session_host.specs.Turning.{Stays, Gives, Answers, IsItem}
use Rattle.session_host.specs.declared.turned.Turned.{Turned}
use Rattle.session_host.specs.inner.Sending.{turned_by}

-- what a link gave with this event, by which nothing was sent
pub record LinkGives (event : Event) (old new : LinkRecord) : Type 0 where
  pub label : new.label ≡ old.label
  pub sent : new.sent ≡ old.sent
  pub received : new.received ≡ old.received ++ client_items (event ∷ [])
  pub gives : Gives event old.script new.script

-- an open session with this event, which isn't journaled yet; there is room for it
pub record Has (event : Event) (h : Hosting) : Type 0 where
  pub goes_on : GoesOn h
  pub link : LinkRecord
  pub faithful : IsFaithful (shape_of h.app) link h.journal None
  pub came : LinkGives event link h.link
  pub running : IsOfRunning (state_after (shape_of h.app) h.journal) event
  pub over : h.over ≡ None
  pub room : length h.journal < h.room
  pub full : is_full h.journal ≡ false

-- the event is journaled, and the Flusher has come to this
abbrev pub journaled : Event → Flushing → ℕ → Hosting → Hosting
journaled event flusher room h = record h { journal = h.journal ++ event ∷ []; room = room; flusher = flusher }

-- a session is over for these reasons where an event was journaled: it is refused where it is an item, and the link has failed
abbrev pub MayEndBy : Type 0 → Type 0 → Option Reason → Type 0
MayEndBy item failed (Some reason.Ended) = ⊥
MayEndBy item failed (Some reason.JournalFull) = ⊥
MayEndBy item failed (Some (reason.Refused k cause)) = item
MayEndBy item failed (Some reason.LinkFailed) = failed
MayEndBy item failed why = ⊤

-- the event was journaled and answered
pub record Handles (event : Event) (old new : Hosting) (before after : ℕ) (answer : Turned) : Type 0 where
  pub kept : IsHosted new
  pub stays : Stays old new
  pub script : new.link.script ≡ old.link.script
  pub answers : Answers (shape_of old.app) old new before after event
  pub may_end : MayEndBy (IsItem event) (Rose old.link.faults new.link.faults) new.over
  pub answer_is : answer ≡ turned_by new.over
