-- What becomes of a session when its link is asked for an item, or when a task ends.
use Rattle.std.specs.Prelude.{◌≡◌, ◌⊎◌, ◌≤◌, ⊤, ℕ, ◌+◌, Bool, true, false, List, [], ◌∷◌, ◌++◌, Option, Some, None}
use Rattle.app_tree.specs.Tree.{Shape}
use Rattle.rx_ports.specs.Faults.{Rose}
use Rattle.rx_ports.specs.Link.{Script, prepend_item, GivesNone}
use Rattle.rx_ports.specs.declared.link.LinkItem.TheVariants as item
use Rattle.session_model.specs.declared.event.Event.{Event}
use Rattle.session_model.specs.declared.event.Event.TheVariants.{Text, Other, TaskEnd, End}
use Rattle.session_model.specs.declared.reason.Reason.{Reason}
use Rattle.session_model.specs.declared.reason.Reason.TheVariants as reason
use Rattle.session_model.specs.Alone.{journal_result, state_after, texts_of_event, bodies_of_event}
use Rattle.session_model.specs.Faithful.{IsFront}
use Rattle.session_model.specs.Standing.{missing_readers}
use Rattle.session_model.specs.Tasks.{is_number_of}
use Rattle.task_board.specs.Board.{board_at, running_number}
use Rattle.flush_cycle.specs.Flushing.{StartsBehind}
use Rattle.session_host.specs.Hosting.{Hosting}
use Rattle.session_host.specs.declared.turned.Turned.{Turned}
use Rattle.session_host.specs.declared.turned.Turned.TheVariants.{Worked, Idle, Stale, Over}

-- ---- what stays

-- the app and the label stay, and the count of faults never falls
pub record Stays (old new : Hosting) : Type 0 where
  pub app : new.app ≡ old.app
  pub label : new.link.label ≡ old.link.label
  pub later : old.link.faults ≤ new.link.faults

-- no event is journaled, nothing is given or sent, and no body run
pub record JournalsNone (old new : Hosting) (before after : ℕ) : Type 0 where
  pub journal : new.journal ≡ old.journal
  pub received : new.link.received ≡ old.link.received
  pub script : new.link.script ≡ old.link.script
  pub sent : new.link.sent ≡ old.link.sent
  pub flusher : new.flusher ≡ old.flusher
  pub bodies : after ≡ before

-- ---- an event

-- what the link's script is before and after, where it is told
abbrev pub Gives : Event → Option Script → Option Script → Type 0
Gives (Text t) old new = old ≡ prepend_item (item.Text t) new
Gives Other old new = old ≡ prepend_item item.Other new
Gives End old new = GivesNone old new true
Gives (TaskEnd t number) old new = new ≡ old

-- a front of these texts is sent
pub record SendsFront (old new texts : List (List ℕ)) : Type 0 where
  pub front : List (List ℕ)
  pub is_front : IsFront front texts
  pub sent : new ≡ old ++ front

-- all of them are; where the link failed or found no memory, a front of them; and none for want of memory
abbrev pub Sends : Option Reason → List (List ℕ) → List (List ℕ) → List (List ℕ) → Type 0
Sends (Some reason.LinkFailed) old new texts = SendsFront old new texts
Sends (Some reason.LinkMemory) old new texts = SendsFront old new texts
Sends (Some reason.Memory) old new texts = new ≡ old
Sends why old new texts = new ≡ old ++ texts

-- the readers that are alive in the state after the journal, and not in the session
abbrev pub missing : Shape → Hosting → ℕ
missing app h = missing_readers app h.flusher.kept.session (state_after app h.journal)

-- The bodies that were run, with the readers that are missing afterwards, are no more than those that the event runs, with those
-- that were missing; and where the session is over, the bodies alone.
abbrev pub IsBounded : Option Reason → Shape → Hosting → Hosting → ℕ → ℕ → ℕ → Type 0
IsBounded None app old new before after bodies = after + missing app new ≤ before + (bodies + missing app old)
IsBounded (Some why) app old new before after bodies = after ≤ before + (bodies + missing app old)

-- an event stands behind the journal, what it adds to the answers is sent, and the jobs that it started stand behind the others
pub record Answers (app : Shape) (old new : Hosting) (before after : ℕ) (event : Event) : Type 0 where
  pub journal : new.journal ≡ old.journal ++ event ∷ []
  pub sends : Sends new.over old.link.sent new.link.sent
      (texts_of_event app old.link.label (journal_result app old.journal) event)
  pub bound : IsBounded new.over app old new before after (bodies_of_event app (journal_result app old.journal) event)
  pub jobs : new.over ≡ None → StartsBehind old.flusher new.flusher

-- and it came from the link, or from a task
pub record Journals (app : Shape) (old new : Hosting) (before after : ℕ) (event : Event) : Type 0 where
  pub gives : Gives event old.link.script new.link.script
  pub answers : Answers app old new before after event

-- ---- a turn

abbrev pub IsItem : Event → Type 0
IsItem (Text t) = ⊤
IsItem Other = ⊤
IsItem _ = ⊥

-- an item of the client is journaled
pub record JournalsItem (app : Shape) (old new : Hosting) (before after : ℕ) : Type 0 where
  pub event : Event
  pub is_item : IsItem event
  pub journals : Journals app old new before after event

-- why the session is over
abbrev pub EndsTurn : Shape → Hosting → Hosting → ℕ → ℕ → Option Reason → Type 0
EndsTurn app old new before after None = ⊥
EndsTurn app old new before after (Some reason.JournalFull) = (new.link ≡ old.link) × JournalsNone old new before after
EndsTurn app old new before after (Some reason.Ended) = Journals app old new before after End
EndsTurn app old new before after (Some reason.LinkFailed) =
    Rose old.link.faults new.link.faults × (JournalsNone old new before after ⊎ JournalsItem app old new before after)
EndsTurn app old new before after (Some reason.LinkMemory) =
    JournalsNone old new before after ⊎ JournalsItem app old new before after
EndsTurn app old new before after (Some reason.Memory) =
    JournalsNone old new before after ⊎ JournalsItem app old new before after
EndsTurn app old new before after (Some why) = JournalsItem app old new before after

-- the link is asked for an item
abbrev pub Turns : Shape → Hosting → Hosting → ℕ → ℕ → Turned → Type 0
Turns app old new before after Worked = (new.over ≡ None) × JournalsItem app old new before after
Turns app old new before after Idle =
    (new.over ≡ None) × JournalsNone old new before after × GivesNone old.link.script new.link.script false
Turns app old new before after (Stale running) = ⊥
Turns app old new before after Over = EndsTurn app old new before after new.over

-- ---- the end of a task

-- whether this invocation of the task is the one that runs
abbrev pub is_running_in : Hosting → ℕ → ℕ → Bool
is_running_in h task number = is_number_of number (running_number (board_at h.flusher.kept.boards task))

abbrev pub EndsWithTask : Shape → Hosting → Hosting → ℕ → ℕ → Event → Option Reason → Type 0
EndsWithTask app old new before after event None = ⊥
EndsWithTask app old new before after event (Some reason.Ended) = ⊥
EndsWithTask app old new before after event (Some (reason.Refused k cause)) = ⊥
EndsWithTask app old new before after event (Some reason.JournalFull) =
    (new.link ≡ old.link) × JournalsNone old new before after
EndsWithTask app old new before after event (Some reason.LinkFailed) =
    Rose old.link.faults new.link.faults × Journals app old new before after event
EndsWithTask app old new before after event (Some reason.Memory) =
    ((new.link ≡ old.link) × JournalsNone old new before after) ⊎ Journals app old new before after event
EndsWithTask app old new before after event (Some why) = Journals app old new before after event

-- this end of a task is handed in
abbrev pub EndsTask : Shape → Hosting → Hosting → ℕ → ℕ → ℕ → ℕ → Turned → Type 0
EndsTask app old new before after task number Worked =
    (new.over ≡ None) × Journals app old new before after (TaskEnd task number)
EndsTask app old new before after task number Idle = ⊥
EndsTask app old new before after task number (Stale running) =
    (running ≡ running_number (board_at old.flusher.kept.boards task)) × (new ≡ old) × (after ≡ before)
EndsTask app old new before after task number Over = EndsWithTask app old new before after (TaskEnd task number) new.over

-- ---- answers

abbrev pub is_stale : Turned → Bool
is_stale (Stale running) = true
is_stale _ = false

abbrev pub is_journal_full : Option Reason → Bool
is_journal_full (Some reason.JournalFull) = true
is_journal_full _ = false
