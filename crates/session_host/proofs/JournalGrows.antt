-- What a journal says that has one more event.
use Rattle.std.proofs.Common.{◌≡◌, ℕ, suc, ◌+◌, Bool, true, false, List, [], ◌∷◌, ◌++◌, length, filter, Option, Some, None, refl, sym, ap, subst, arith}
use Rattle.app_tree.specs.Tree.{Shape}
use Rattle.rx_ports.specs.declared.link.LinkItem.TheVariants as item
use Rattle.shiny_json.specs.Client.{client_message}
use Rattle.shiny_json.specs.declared.message.Client.{Client}
use Rattle.shiny_json.specs.declared.message.Client.TheVariants.{Init, Update, Refused}
use Rattle.session_model.specs.declared.event.Event.{Event}
use Rattle.session_model.specs.declared.event.Event.TheVariants.{Text, Other, TaskEnd, End}
use Rattle.session_model.specs.Tasks.{is_running}
use Rattle.session_model.specs.Alone.{Ending, JournalResult, first_result, effect_from, event_effect, message_effect, task_effect, items_after, result_after, after_event, result_from, journal_result, ending, state_after}
use Rattle.session_model.specs.Faithful.{client_items, IsOfRunning, EachOfRunning, EndsOnlyLast, has_end, without_last}
use Rattle.session_model.specs.Journal.{text_bytes}
use Rattle.flush_cycle.specs.declared.stage.Stage.{Stage}
use Rattle.flush_cycle.specs.declared.stage.Stage.TheVariants.{New, Open, Over}
use Rattle.session_host.specs.Journaling.{bytes_of, is_item}
use Rattle.session_host.specs.Keeping.{IsStageOf}
use Rattle.session_host.specs.inner.Applying.{is_open}

pub client_items-more : (journal : List Event) (event : Event)
    → client_items (journal ++ event ∷ []) ≡ client_items journal ++ client_items (event ∷ [])
client_items-more [] event = refl
client_items-more (Text t ∷ more) event = ap (λ l. item.Text t ∷ l) (client_items-more more event)
client_items-more (Other ∷ more) event = ap (λ l. item.Other ∷ l) (client_items-more more event)
client_items-more (TaskEnd t number ∷ more) event = client_items-more more event
client_items-more (End ∷ more) event = client_items-more more event

pub without_last-more : (journal : List Event) (event : Event) → without_last (journal ++ event ∷ []) ≡ journal
without_last-more [] event = refl
without_last-more (first ∷ []) event = refl
without_last-more (first ∷ next ∷ more) event = ap (λ l. first ∷ l) (without_last-more (next ∷ more) event)

running_from : (app : Shape) (so_far : JournalResult) (journal : List Event) (event : Event)
    → EachOfRunning app so_far journal → IsOfRunning (result_from app so_far journal).state event
    → EachOfRunning app so_far (journal ++ event ∷ [])
running_from app so_far [] event each this = (this, tt)
running_from app so_far (first ∷ more) event each this =
    (each.0, running_from app (after_event app so_far first) more event each.1 this)

pub running-more : (app : Shape) (journal : List Event) (event : Event)
    → EachOfRunning app (first_result app) journal → IsOfRunning (state_after app journal) event
    → EachOfRunning app (first_result app) (journal ++ event ∷ [])
running-more app journal event each this = running_from app (first_result app) journal event each this

-- ---- a session that goes on

-- one that is over stays so
pub over_from : (app : Shape) (so_far : JournalResult) (end : Ending) (journal : List Event)
    → so_far.ending ≡ Some end → (result_from app so_far journal).ending ≡ Some end
over_from app so_far end [] h = h
over_from app so_far end (event ∷ more) h = over_from app (after_event app so_far event) end more (stays so_far.ending h)
  where
    stays : (o : Option Ending) → o ≡ Some end → (result_after so_far (items_after event so_far.items) (effect_from app so_far o event)).ending ≡ Some end
    stays None p = cc
    stays (Some e) p = h

-- behind the link's end it is over
ended_has : (app : Shape) (so_far : JournalResult) → (after_event app so_far End).ending ≡ None → ⊥
ended_has app so_far h = by so_far.ending refl h
  where
    by : (o : Option Ending) → so_far.ending ≡ o → (result_after so_far (items_after End so_far.items) (effect_from app so_far o End)).ending ≡ None → ⊥
    by None p q = cc
    by (Some e) p q = cc

is_none : (o : Option Ending) → ((e : Ending) → o ≡ Some e → ⊥) → o ≡ None
is_none None h = refl
is_none (Some e) h = absurd (h e refl)

some_not_none : {o : Option Ending} {e : Ending} → o ≡ Some e → o ≡ None → ⊥
some_not_none p q = cc

-- it went on before its last event too
pub goes_on_before : (app : Shape) (so_far : JournalResult) (journal : List Event)
    → (result_from app so_far journal).ending ≡ None → so_far.ending ≡ None
goes_on_before app so_far journal h = is_none so_far.ending (λ e p. some_not_none (over_from app so_far e journal p) h)

no_end_from : (app : Shape) (so_far : JournalResult) (journal : List Event)
    → (result_from app so_far journal).ending ≡ None → has_end journal ≡ false
no_end_from app so_far [] h = refl
no_end_from app so_far (Text t ∷ more) h = no_end_from app (after_event app so_far (Text t)) more h
no_end_from app so_far (Other ∷ more) h = no_end_from app (after_event app so_far Other) more h
no_end_from app so_far (TaskEnd t number ∷ more) h = no_end_from app (after_event app so_far (TaskEnd t number)) more h
no_end_from app so_far (End ∷ more) h = absurd (ended_has app so_far (goes_on_before app (after_event app so_far End) more h))

pub no_end : (app : Shape) (journal : List Event) → ending app journal ≡ None → has_end journal ≡ false
no_end app journal h = no_end_from app (first_result app) journal h

-- ---- where the end stands

abbrev pub is_end : Event → Bool
is_end End = true
is_end _ = false

pub has_end-more : (journal : List Event) (event : Event) → has_end journal ≡ false → has_end (journal ++ event ∷ []) ≡ is_end event
has_end-more [] (Text t) h = refl
has_end-more [] Other h = refl
has_end-more [] (TaskEnd t number) h = refl
has_end-more [] End h = refl
has_end-more (Text t ∷ more) event h = has_end-more more event h
has_end-more (Other ∷ more) event h = has_end-more more event h
has_end-more (TaskEnd t number ∷ more) event h = has_end-more more event h
has_end-more (End ∷ more) event h = cc

pub ends_only_last : (journal : List Event) (event : Event) → has_end journal ≡ false → EndsOnlyLast (journal ++ event ∷ [])
ends_only_last [] (Text t) h = tt
ends_only_last [] Other h = tt
ends_only_last [] (TaskEnd t number) h = tt
ends_only_last [] End h = refl
ends_only_last (Text t ∷ more) event h = ends_only_last more event h
ends_only_last (Other ∷ more) event h = ends_only_last more event h
ends_only_last (TaskEnd t number ∷ more) event h = ends_only_last more event h
ends_only_last (End ∷ more) event h = cc

-- ---- the items of the client are counted

-- how many items an event is
abbrev pub items_of : Event → ℕ
items_of event = length (client_items (event ∷ []))

pub items_step : (event : Event) (items : ℕ) → items_after event items ≡ items + items_of event
items_step (Text t) items = omega arith
items_step Other items = omega arith
items_step (TaskEnd t number) items = omega arith
items_step End items = omega arith

-- an item always flushes or is refused; what does nothing is none
item_counted : (app : Shape) (so_far : JournalResult) (event : Event) → so_far.ending ≡ None
    → (after_event app so_far event).items ≡ so_far.items + items_of event
item_counted app so_far event h =
    subst (λ (o : Option Ending). (result_after so_far (items_after event so_far.items) (effect_from app so_far o event)).items ≡ so_far.items + items_of event) (sym h) (going event)
  where
    message : (t : List ℕ) (b : Bool) (c : Client) → (result_after so_far (suc so_far.items) (message_effect app b so_far.state c)).items ≡ so_far.items + 1
    message t false (Init pairs) = omega arith
    message t true (Init pairs) = omega arith
    message t false (Update pairs) = omega arith
    message t true (Update pairs) = omega arith
    message t false (Refused cause) = omega arith
    message t true (Refused cause) = omega arith

    task : (t : ℕ) (b : Bool) → (result_after so_far so_far.items (task_effect b app t so_far.state)).items ≡ so_far.items + 0
    task t true = omega arith
    task t false = omega arith

    going : (e : Event) → (result_after so_far (items_after e so_far.items) (event_effect app so_far e)).items ≡ so_far.items + items_of e
    going (Text t) = message t so_far.begun (client_message t)
    going Other = omega arith
    going (TaskEnd t number) = task t (is_running t number so_far.state)
    going End = omega arith

items_from : (app : Shape) (so_far : JournalResult) (journal : List Event) → (result_from app so_far journal).ending ≡ None
    → (result_from app so_far journal).items ≡ so_far.items + length (client_items journal)
items_from app so_far [] h = omega arith
items_from app so_far (event ∷ more) h =
    let rest : (result_from app (after_event app so_far event) more).items ≡ (after_event app so_far event).items + length (client_items more) = items_from app (after_event app so_far event) more h in
    let first : (after_event app so_far event).items ≡ so_far.items + items_of event = item_counted app so_far event (goes_on_before app so_far (event ∷ more) h) in
    let joined : length (client_items (event ∷ more)) ≡ items_of event + length (client_items more) = split event in
    omega (rest, first, joined, arith)
  where
    split : (e : Event) → length (client_items (e ∷ more)) ≡ items_of e + length (client_items more)
    split (Text t) = omega arith
    split Other = omega arith
    split (TaskEnd t number) = omega arith
    split End = omega arith

pub items_counted : (app : Shape) (journal : List Event) → ending app journal ≡ None
    → (journal_result app journal).items ≡ length (client_items journal)
items_counted app journal h =
    let counted : (journal_result app journal).items ≡ 0 + length (client_items journal) = items_from app (first_result app) journal h in omega (counted, arith)

-- the items among the events
pub items_are : (journal : List Event) → length (filter is_item journal) ≡ length (client_items journal)
items_are [] = refl
items_are (Text t ∷ more) = ap suc (items_are more)
items_are (Other ∷ more) = ap suc (items_are more)
items_are (TaskEnd t number ∷ more) = items_are more
items_are (End ∷ more) = items_are more

-- ---- the bytes of its texts

pub text_bytes_more : (journal : List Event) (event : Event) → text_bytes (journal ++ event ∷ []) ≡ text_bytes journal + bytes_of event
text_bytes_more [] (Text t) = omega arith
text_bytes_more [] Other = refl
text_bytes_more [] (TaskEnd t number) = refl
text_bytes_more [] End = refl
text_bytes_more (Text t ∷ more) event = let rest = text_bytes_more more event in omega (rest, arith)
text_bytes_more (Other ∷ more) event = text_bytes_more more event
text_bytes_more (TaskEnd t number ∷ more) event = text_bytes_more more event
text_bytes_more (End ∷ more) event = text_bytes_more more event

-- ---- whether the init was accepted

pub begun_is : (app : Shape) (journal : List Event) (stage : Stage) → IsStageOf app journal stage → (journal_result app journal).begun ≡ is_open stage
begun_is app journal New h = ap (λ j. (journal_result app j).begun) h
begun_is app journal Open h = h
begun_is app journal Over h = absurd h
