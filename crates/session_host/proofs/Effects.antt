-- What an event does, by its effect.
use Rattle.std.proofs.Common.{◌≡◌, ℕ, zero, suc, true, false, List, [], ◌∷◌, map, filter, get_or, Option, Some, None, refl, sym, ap, ◌∙◌, subst}
use Rattle.std.specs.Prelude.{IfOk, Result}
use Rattle.app_tree.specs.Held.{Held}
use Rattle.app_tree.specs.Tree.{Node, Shape}
use Rattle.app_tree.specs.Numbering.{is_task}
use Rattle.app_tree.specs.View.{shape_of}
use Rattle.rx_value.specs.declared.memory.Memory.{Memory}
use Rattle.shiny_json.specs.Client.{client_message}
use Rattle.shiny_json.specs.declared.message.Client.{Client}
use Rattle.task_board.specs.declared.job.Invocation.{Invocation}
use Rattle.task_board.specs.Board.{TaskBoard, idle, board_at}
use Rattle.session_model.specs.declared.event.Event.{Event}
use Rattle.session_model.specs.declared.event.Event.TheVariants.{Text, TaskEnd}
use Rattle.session_model.specs.State.{SessionState, first_state}
use Rattle.session_model.specs.Tasks.{is_running}
use Rattle.session_model.specs.Texts.{later_texts}
use Rattle.session_model.specs.Standing.{StandsWholly}
use Rattle.session_model.specs.Alone.{Effect, flushes, refuses, ends, nothing, event_effect, message_effect, task_effect, journal_result, state_after}
use Rattle.flush_cycle.specs.Flushing.{Flushing, flush_task_end}
use Rattle.flush_cycle.specs.declared.flushed.Flushed.{Flushed}
use Rattle.flush_cycle.specs.declared.stage.Stage.{Stage}
use Rattle.flush_cycle.specs.declared.stage.Stage.TheVariants.{New, Open, Over}
use Rattle.session_host.specs.Hosting.{Hosting}
use Rattle.session_host.specs.Keeping.{IsStageOf, GoesOn}
use Rattle.session_host.specs.declared.applying.Applied.{Applied}
use Rattle.session_host.specs.declared.applying.Applied.TheVariants.{Unread, Came}
use Rattle.session_host.specs.inner.Applying.{is_open, MakesFlush, Does}
use Rattle.session_host.specs.inner.Answering.{Has}
use Rattle.session_host.proofs.JournalGrows.{begun_is}

pub unread_does : (app : Shape) (label : List ℕ) (state : SessionState) (e : Effect) (f : Flushing) (n : ℕ)
    → Does app label state e f f n n Unread
unread_does app label state (flushes init result) f n = record { flusher = refl; bodies = refl }
unread_does app label state (refuses cause) f n = record { flusher = refl; bodies = refl }
unread_does app label state ends f n = record { flusher = refl; bodies = refl }
unread_does app label state nothing f n = record { flusher = refl; bodies = refl }

-- a message that was applied, or that there was no memory to read
pub text_does : (text : List ℕ) (h : Hosting) (new : Flushing) (before after : ℕ) (read : Result Client Memory) (applied : Applied)
    → Has (Text text) h
    → IfOk read (λ c. c ≡ client_message text)
    → ((state : SessionState) → StandsWholly (shape_of h.flusher.app) h.flusher.kept state
    → (client : Client) → IfOk read (λ c. c ≡ client)
    → Does (shape_of h.flusher.app) h.link.label state (message_effect (shape_of h.flusher.app) (is_open h.flusher.stage) state client)
    h.flusher new before after applied)
    → Does (shape_of h.app) h.link.label (state_after (shape_of h.app) h.journal)
    (event_effect (shape_of h.app) (journal_result (shape_of h.app) h.journal) (Text text)) h.flusher new before after applied
text_does text h new before after read applied has is does =
    subst (λ b. Does app h.link.label state (message_effect app b state (client_message text)) h.flusher new before after applied)
    (sym (begun_is app h.journal h.flusher.stage has.goes_on.stage))
    (of_app state has.goes_on.stands (client_message text) is)
  where
    app : Shape
    app = shape_of h.app

    state : SessionState
    state = state_after app h.journal

    of_app : (state : SessionState) → StandsWholly app h.flusher.kept state
        → (client : Client) → IfOk read (λ c. c ≡ client)
        → Does app h.link.label state (message_effect app (is_open h.flusher.stage) state client) h.flusher new before after applied
    of_app = subst (λ (a : Held). (state : SessionState) → StandsWholly (shape_of a) h.flusher.kept state
        → (client : Client) → IfOk read (λ c. c ≡ client)
        → Does (shape_of a) h.link.label state (message_effect (shape_of a) (is_open h.flusher.stage) state client) h.flusher new before after applied)
        has.goes_on.app does

-- the end of an invocation that runs
pub task_does : (app : Shape) (label : List ℕ) (journal : List Event) (task number : ℕ) (old new : Flushing) (before after : ℕ) (answer : Flushed)
    → is_running task number (state_after app journal) ≡ true
    → MakesFlush app false old new before after (state_after app journal) (flush_task_end app task (state_after app journal))
    (later_texts app (flush_task_end app task (state_after app journal))) answer
    → Does app label (state_after app journal) (event_effect app (journal_result app journal) (TaskEnd task number)) old new before after (Came answer)
task_does app label journal task number old new before after answer runs m =
    subst (λ b. Does app label (state_after app journal) (task_effect b app task (state_after app journal)) old new before after (Came answer)) (sym runs) m

-- ---- where an invocation runs the init was applied

idle_at : (is : List Node) (task : ℕ) → get_or (map (λ i. idle) is) task idle ≡ idle
idle_at [] task = refl
idle_at (i ∷ is) zero = refl
idle_at (i ∷ is) (suc task) = idle_at is task

not_idle : (running : Invocation) (board : TaskBoard) → board ≡ idle → board.running ≡ Some running → ⊥
not_idle running board p h = none (sym (ap (λ (b : TaskBoard). b.running) p) ∙ h)
  where
    none : (let o : Option Invocation = None in o) ≡ Some running → ⊥
    none h = cc

pub runs_open : (h : Hosting) (task : ℕ) (running : Invocation) → GoesOn h → (board_at h.flusher.kept.boards task).running ≡ Some running
    → h.flusher.stage ≡ Open
runs_open h task running g runs = by h.flusher.stage refl g.stage
  where
    by : (stage : Stage) → h.flusher.stage ≡ stage → IsStageOf (shape_of h.app) h.journal stage → h.flusher.stage ≡ Open
    by Open p s = p
    by Over p s = absurd s
    by New p s =
        let boards : h.flusher.kept.boards ≡ (first_state (shape_of h.app)).boards = g.stands.boards ∙ ap (λ j. (state_after (shape_of h.app) j).boards) s in
        absurd (not_idle running (board_at h.flusher.kept.boards task) (ap (λ bs. board_at bs task) boards ∙ idle_at (filter is_task (shape_of h.app).items) task) runs)
