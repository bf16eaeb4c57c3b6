-- A session run alone: its events one after the other, what each sends, and how the session ends.
use Rattle.std.specs.Prelude.{ℕ, suc, ◌+◌, Bool, true, false, List, [], ◌∷◌, ◌++◌, Option, Some, None}
use Rattle.shiny_json.specs.declared.message.Pair.{Pair}
use Rattle.shiny_json.specs.declared.message.Client.{Client}
use Rattle.shiny_json.specs.declared.message.Client.TheVariants.{Init, Update, Refused}
use Rattle.shiny_json.specs.declared.message.BadMessage.{BadMessage}
use Rattle.shiny_json.specs.declared.message.BadMessage.TheVariants as bad
use Rattle.shiny_json.specs.Client.{client_message}
use Rattle.app_tree.specs.Tree.{Shape}
use Rattle.session_model.specs.declared.event.Event.{Event}
use Rattle.session_model.specs.declared.event.Event.TheVariants.{Text, Other, TaskEnd, End}
use Rattle.session_model.specs.State.{SessionState, first_state}
use Rattle.session_model.specs.Change.{thaw}
use Rattle.session_model.specs.Apply.{apply_pairs}
use Rattle.session_model.specs.Tasks.{is_running, end_task}
use Rattle.session_model.specs.Flush.{FlushEnd, FlushResult, flush}
use Rattle.session_model.specs.Flush as flush_end
use Rattle.session_model.specs.Texts.{first_texts, later_texts}

-- how a session ends: its link ended, a message was refused (its number among the client's items, from 1, and the
-- cause), a flush spent its budget, or an observer failed with a text
pub data Ending : Type 0 where
  ended : Ending
  refused : ℕ → BadMessage → Ending
  budget_spent : Ending
  observer_failed : List ℕ → Ending

-- what a journal comes to: the session's state, whether the init was accepted, how many items the client sent, how many
-- bodies were run, and how the session ended, if it did
pub record JournalResult : Type 0 where
  pub state : SessionState
  pub begun : Bool
  pub items : ℕ
  pub bodies : ℕ
  pub ending : Option Ending

abbrev pub first_result : Shape → JournalResult
first_result app = record { state = first_state app; begun = false; items = 0; bodies = 0; ending = None }

-- what an event does; `flushes` says whether it is the init
pub data Effect : Type 0 where
  flushes : Bool → FlushResult → Effect
  refuses : BadMessage → Effect
  ends : Effect
  nothing : Effect

-- what is frozen thaws, the message sets what it sets, and then comes the flush
abbrev pub flush_with_pairs : Shape → List Pair → SessionState → FlushResult
flush_with_pairs app pairs state = flush app (apply_pairs app pairs (thaw state))

-- the init comes first, and once
abbrev pub message_effect : Shape → Bool → SessionState → Client → Effect
message_effect app false state (Init pairs) = flushes true (flush_with_pairs app pairs state)
message_effect app true state (Init pairs) = refuses bad.SecondInit
message_effect app true state (Update pairs) = flushes false (flush_with_pairs app pairs state)
message_effect app false state (Update pairs) = refuses bad.EarlyUpdate
message_effect app begun state (Refused cause) = refuses cause

-- the same where the running invocation of task t ends; any other end is none
abbrev pub task_effect : Bool → Shape → ℕ → SessionState → Effect
task_effect true app t state = flushes false (flush app (end_task app t (thaw state)))
task_effect false app t state = nothing

abbrev pub event_effect : Shape → JournalResult → Event → Effect
event_effect app so_far (Text text) = message_effect app so_far.begun so_far.state (client_message text)
event_effect app so_far Other = refuses bad.Other
event_effect app so_far (TaskEnd t number) = task_effect (is_running t number so_far.state) app t so_far.state
event_effect app so_far End = ends

-- a session that is over does nothing more
abbrev pub effect_from : Shape → JournalResult → Option Ending → Event → Effect
effect_from app so_far None event = event_effect app so_far event
effect_from app so_far (Some ending) event = nothing

abbrev pub effect : Shape → JournalResult → Event → Effect
effect app so_far event = effect_from app so_far so_far.ending event

abbrev pub flush_ending : FlushEnd → Option Ending
flush_ending flush_end.done = None
flush_ending flush_end.budget_spent = Some budget_spent
flush_ending (flush_end.observer_failed text) = Some (observer_failed text)

-- the items of the client are numbered from 1
abbrev pub items_after : Event → ℕ → ℕ
items_after (Text text) items = suc items
items_after Other items = suc items
items_after _ items = items

abbrev pub result_after : JournalResult → ℕ → Effect → JournalResult
result_after so_far items (flushes first flushed) = record {
  state = flushed.state;
  begun = true;
  items = items;
  bodies = so_far.bodies + flushed.bodies;
  ending = flush_ending flushed.end;
}
result_after so_far items (refuses cause) = record so_far { items = items; ending = Some (refused items cause) }
result_after so_far items ends = record so_far { items = items; ending = Some ended }
result_after so_far items nothing = so_far

abbrev pub after_event : Shape → JournalResult → Event → JournalResult
after_event app so_far event = result_after so_far (items_after event so_far.items) (effect app so_far event)

abbrev pub effect_bodies : Effect → ℕ
effect_bodies (flushes first flushed) = flushed.bodies
effect_bodies _ = 0

-- how many bodies of readers an event runs
abbrev pub bodies_of_event : Shape → JournalResult → Event → ℕ
bodies_of_event app so_far event = effect_bodies (effect app so_far event)

abbrev pub effect_texts : Shape → List ℕ → Effect → List (List ℕ)
effect_texts app label (flushes true flushed) = first_texts app label flushed
effect_texts app label (flushes false flushed) = later_texts app flushed
effect_texts app label _ = []

abbrev pub texts_of_event : Shape → List ℕ → JournalResult → Event → List (List ℕ)
texts_of_event app label so_far event = effect_texts app label (effect app so_far event)

-- ---- a whole journal

abbrev pub result_from : Shape → JournalResult → List Event → JournalResult
result_from app so_far [] = so_far
result_from app so_far (event ∷ more) = result_from app (after_event app so_far event) more

abbrev pub answers_from : Shape → List ℕ → JournalResult → List Event → List (List ℕ)
answers_from app label so_far [] = []
answers_from app label so_far (event ∷ more) =
    texts_of_event app label so_far event ++ answers_from app label (after_event app so_far event) more

-- all that is sent to the session of this label in answer to this journal
abbrev pub answers : Shape → List ℕ → List Event → List (List ℕ)
answers app label journal = answers_from app label (first_result app) journal

abbrev pub journal_result : Shape → List Event → JournalResult
journal_result app journal = result_from app (first_result app) journal

-- how the journal ends the session, if it does
abbrev pub ending : Shape → List Event → Option Ending
ending app journal = (journal_result app journal).ending

-- the session's state after the journal
abbrev pub state_after : Shape → List Event → SessionState
state_after app journal = (journal_result app journal).state

-- how many bodies of readers the journal runs
abbrev pub bodies_run : Shape → List Event → ℕ
bodies_run app journal = (journal_result app journal).bodies
