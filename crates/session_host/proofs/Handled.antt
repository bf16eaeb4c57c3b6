-- What becomes of an event that was applied: it is journaled and answered.
use Rattle.std.proofs.Common.{◌≡◌, ◌≢◌, ◌<◌, ◌≤◌, ℕ, ◌+◌, Bool, true, false, List, [], ◌∷◌, ◌++◌, length, filter, Option, Some, None, refl, sym, ap, ◌∙◌, subst, arith, append-nil}
use Rattle.std.proofs.lemmas.List.{length-append}
use Rattle.std.specs.Prelude.{IfOk, Result}
use Rattle.rx_value.specs.declared.memory.Memory.{Memory}
use Rattle.app_tree.specs.Held.{Held}
use Rattle.shiny_json.specs.Client.{client_message}
use Rattle.shiny_json.specs.declared.message.Client.{Client}
use Rattle.shiny_json.specs.declared.message.BadMessage.TheVariants as bad
use Rattle.session_model.specs.Texts.{later_texts}
use Rattle.app_tree.specs.Tree.{Shape}
use Rattle.app_tree.specs.View.{shape_of}
use Rattle.rx_ports.specs.Faults.{Rose}
use Rattle.rx_ports.specs.declared.link.Sent.{Sent}
use Rattle.rx_ports.specs.declared.link.Sent.TheVariants as send
use Rattle.shiny_json.specs.declared.message.BadMessage.{BadMessage}
use Rattle.session_model.specs.declared.event.Event.{Event}
use Rattle.session_model.specs.declared.event.Event.TheVariants.{Text, Other, TaskEnd, End}
use Rattle.session_model.specs.Tasks.{is_running}
use Rattle.session_model.specs.declared.reason.Reason.{Reason}
use Rattle.session_model.specs.declared.reason.Reason.TheVariants as reason
use Rattle.session_model.specs.State.{SessionState}
use Rattle.session_model.specs.Standing.{StandsWholly, missing_readers}
use Rattle.session_model.specs.Flush.{FlushEnd, done, budget_spent, observer_failed, FlushResult}
use Rattle.session_model.specs.Alone.{JournalResult, Effect, flushes, refuses, ends, nothing, journal_result, state_after, event_effect, message_effect, task_effect, effect, effect_from, effect_texts, effect_bodies, flush_ending, items_after, result_after, texts_of_event, bodies_of_event, ending}
use Rattle.session_model.specs.Faithful.{LinkRecord, client_items, may_fail, EndsFor}
use Rattle.session_laws.proofs.Journals.{journal_result-more}
use Rattle.flush_cycle.specs.Flushing.{Flushing, Ends, Flushes, flush_task_end, IfDone, IfNotMemory, StartsBehind, stage_after}
use Rattle.flush_cycle.specs.Waits.{IsSettled}
use Rattle.flush_cycle.specs.declared.stage.Stage.TheVariants.{Open}
use Rattle.flush_cycle.specs.declared.flushed.Flushed.{Flushed}
use Rattle.flush_cycle.specs.declared.flushed.Flushed.TheVariants as flushed
use Rattle.session_host.specs.Journaling.{is_item}
use Rattle.session_host.specs.Hosting.{Hosting}
use Rattle.session_host.specs.Keeping.{IsStageOf, GoesOn}
use Rattle.session_host.specs.Turning.{Sends, SendsFront, IsBounded, missing, IsItem}
use Rattle.session_host.specs.declared.applying.Applied.{Applied}
use Rattle.session_host.specs.declared.applying.Applied.TheVariants.{Unread, Refused, Came}
use Rattle.session_host.specs.declared.turned.Turned.{Turned}
use Rattle.session_host.specs.inner.Sending.{Sending, Closes, LinkSends, over_after, turned_by}
use Rattle.session_host.specs.inner.Applying.{is_open, MakesFlush, DoesNothing, Does, Says}
use Rattle.session_host.specs.inner.Answering.{Has, MayEndBy, Handles, journaled}
use Rattle.session_host.proofs.JournalGrows.{client_items-more, items_are, items_counted, items_step, items_of}
use Rattle.session_host.proofs.FaithfulGrows.{faithful_behind}
use Rattle.session_host.proofs.Effects.{text_does, task_does}

-- why a session is over behind a flush that came to this end
abbrev reason_for : FlushEnd → Option Reason
reason_for done = None
reason_for budget_spent = Some reason.BudgetSpent
reason_for (observer_failed why) = Some (reason.ObserverFailed why)

rose_some : (before now : ℕ) → Rose before now → 0 < now
rose_some before now rose = omega (rose, arith)

-- what is refused is an item of the client
refuses_item : (app : Shape) (so_far : JournalResult) (event : Event) (cause : BadMessage) → event_effect app so_far event ≡ refuses cause → IsItem event
refuses_item app so_far (Text t) cause h = tt
refuses_item app so_far Other cause h = tt
refuses_item app so_far End cause h = cc
refuses_item app so_far (TaskEnd t number) cause h = by (is_running t number so_far.state) h
  where
    by : (b : Bool) → task_effect b app t so_far.state ≡ refuses cause → ⊥
    by true h = cc
    by false h = cc

module _ (event : Event) (old : Hosting) (flusher : Flushing) (room before after : ℕ) (has : Has event old) where
  abbrev app : Shape
  app = shape_of old.app

  abbrev so_far : JournalResult
  so_far = journal_result app old.journal

  abbrev behind : List Event
  behind = old.journal ++ event ∷ []

  abbrev texts : List (List ℕ)
  texts = texts_of_event app old.link.label so_far event

  abbrev bodies : ℕ
  bodies = bodies_of_event app so_far event

  abbrev started : Hosting
  started = journaled event flusher room old

  abbrev ended : LinkRecord → Option Reason → Hosting
  ended link over = record started { link = link; over = over }

  -- ---- by the event's effect

  module _ (e : Effect) (is : event_effect app so_far event ≡ e) where
    effect_is : effect app so_far event ≡ e
    effect_is = ap (λ o. effect_from app so_far o event) has.faithful.ends ∙ is

    next : journal_result app behind ≡ result_after so_far (items_after event so_far.items) e
    next = journal_result-more app old.journal event ∙ ap (result_after so_far (items_after event so_far.items)) effect_is

    texts_are : texts ≡ effect_texts app old.link.label e
    texts_are = ap (effect_texts app old.link.label) effect_is

    bodies_are : bodies ≡ effect_bodies e
    bodies_are = ap effect_bodies effect_is

  -- ---- put together

  handles : (link : LinkRecord) (over : Option Reason)
      → link.label ≡ old.link.label → link.received ≡ old.link.received → link.script ≡ old.link.script
      → old.link.faults ≤ link.faults
      → Sends over old.link.sent link.sent texts
      → EndsFor over (ending app behind)
      → MayEndBy (IsItem event) (Rose old.link.faults link.faults) over
      → (over ≡ None → GoesOn (ended link over))
      → IsBounded over app old (ended link over) before after bodies
      → (over ≡ None → StartsBehind old.flusher flusher)
      → Handles event old (ended link over) before after (turned_by over)
  handles link over label received script later sends end may goes bound jobs = record {
    kept = record {
      faithful = faithful_behind event old link over has label received script sends end (faulty over may) (not_full over may);
      goes_on = goes;
    };
    stays = record { app = refl; label = label; later = later };
    script = script;
    answers = record { journal = refl; sends = sends; bound = bound; jobs = jobs };
    may_end = may;
    answer_is = refl;
  }
    where
      faulty : (o : Option Reason) → MayEndBy (IsItem event) (Rose old.link.faults link.faults) o → o ≡ Some reason.LinkFailed → 0 < link.faults
      faulty (Some reason.LinkFailed) may h = rose_some old.link.faults link.faults may
      faulty None may h = cc
      faulty (Some reason.Ended) may h = cc
      faulty (Some (reason.Refused k cause)) may h = cc
      faulty (Some reason.BudgetSpent) may h = cc
      faulty (Some (reason.ObserverFailed t)) may h = cc
      faulty (Some reason.JournalFull) may h = cc
      faulty (Some reason.Memory) may h = cc
      faulty (Some reason.LinkMemory) may h = cc

      not_full : (o : Option Reason) → MayEndBy (IsItem event) (Rose old.link.faults link.faults) o → o ≢ Some reason.JournalFull
      not_full (Some reason.JournalFull) may h = may
      not_full None may h = cc
      not_full (Some reason.Ended) may h = cc
      not_full (Some (reason.Refused k cause)) may h = cc
      not_full (Some reason.BudgetSpent) may h = cc
      not_full (Some (reason.ObserverFailed t)) may h = cc
      not_full (Some reason.LinkFailed) may h = cc
      not_full (Some reason.Memory) may h = cc
      not_full (Some reason.LinkMemory) may h = cc

  -- ---- without texts

  closed : (why : Reason) (new : Hosting) (answer : Turned) → Handles event old (ended old.link (Some why)) before after (turned_by (Some why))
      → Closes started new why answer → Handles event old new before after answer
  closed why new answer h c =
      subst (λ n. Handles event old n before after answer) (sym c.rest)
      (subst (λ a. Handles event old (ended old.link (Some why)) before after a) (sym c.answer_is) h)

  for_want_of_memory : after ≤ before + (bodies + missing app old) → Handles event old (ended old.link (Some reason.Memory)) before after (turned_by (Some reason.Memory))
  for_want_of_memory bound = handles old.link (Some reason.Memory) refl refl refl (omega arith) refl tt tt (λ h. cc) bound (λ h. cc)

  nothing_done : DoesNothing old.flusher flusher before after → after ≤ before + (bodies + missing app old)
  nothing_done d = let same = d.bodies in omega (same, arith)

  number_is : items_after event so_far.items ≡ length (filter is_item behind)
  number_is =
      let counted : so_far.items ≡ length (client_items old.journal) = items_counted app old.journal has.faithful.ends in
      let joined : length (filter is_item behind) ≡ length (client_items old.journal) + items_of event =
      items_are behind ∙ ap length (client_items-more old.journal event) ∙ length-append (client_items old.journal) (client_items (event ∷ [])) in
      let step : items_after event so_far.items ≡ so_far.items + items_of event = items_step event so_far.items in
      omega (counted, joined, step, arith)

  refused_so : (cause : BadMessage) → event_effect app so_far event ≡ refuses cause → DoesNothing old.flusher flusher before after
      → Handles event old (ended old.link (Some (reason.Refused (length (filter is_item behind)) cause))) before after (turned_by (Some (reason.Refused (length (filter is_item behind)) cause)))
  refused_so cause is d =
      handles old.link (Some (reason.Refused (length (filter is_item behind)) cause)) refl refl refl (omega arith)
      (sym (append-nil old.link.sent) ∙ ap (λ l. old.link.sent ++ l) (sym (texts_are (refuses cause) is)))
      (subst (EndsFor (Some (reason.Refused (length (filter is_item behind)) cause)))
      (sym (ap (λ (r : JournalResult). r.ending) (next (refuses cause) is)))
      (ap (λ k. reason.Refused k cause) number_is))
      (refuses_item app so_far event cause is) (λ h. cc) (nothing_done d) (λ h. cc)

  -- ---- with the texts of a flush

  module _ (init : Bool) (f : FlushResult) (is : event_effect app so_far event ≡ flushes init f) where
    abbrev wanted : List (List ℕ)
    wanted = effect_texts app old.link.label (flushes init f)

    state_is : state_after app behind ≡ f.state
    state_is = ap (λ (r : JournalResult). r.state) (next (flushes init f) is)

    begun_is : (journal_result app behind).begun ≡ true
    begun_is = ap (λ (r : JournalResult). r.begun) (next (flushes init f) is)

    ending_is : ending app behind ≡ flush_ending f.end
    ending_is = ap (λ (r : JournalResult). r.ending) (next (flushes init f) is)

    ends_for : (expected : FlushEnd) → f.end ≡ expected → EndsFor (reason_for expected) (ending app behind)
    ends_for expected p = subst (EndsFor (reason_for expected)) (sym (ending_is ∙ ap flush_ending p)) (so expected)
      where
        so : (expected : FlushEnd) → EndsFor (reason_for expected) (flush_ending expected)
        so done = refl
        so budget_spent = refl
        so (observer_failed why) = refl

    may_fail_is : may_fail (ending app behind) ≡ true
    may_fail_is = ap may_fail ending_is ∙ so f.end
      where
        so : (end : FlushEnd) → may_fail (flush_ending end) ≡ true
        so done = refl
        so budget_spent = refl
        so (observer_failed why) = refl

    -- what is known of the Flusher behind the flush
    module _ (expected : FlushEnd) (sent : List (List ℕ))
        (m : Ends app init old.flusher flusher before after (state_after app old.journal) f expected wanted sent)
        (app_stays : flusher.app ≡ old.flusher.app)
        (goes_on : expected ≡ done → (flusher.stage ≡ Open) × IsSettled app flusher.kept)
        (jobs : StartsBehind old.flusher flusher) where
      all_sent : (new : List (List ℕ)) → new ≡ old.link.sent ++ sent → new ≡ old.link.sent ++ texts
      all_sent new p = p ∙ ap (λ l. old.link.sent ++ l) (m.texts ∙ sym (texts_are (flushes init f) is))

      bound_over : after ≤ before + (bodies + missing app old)
      bound_over =
          let b = m.stepped.bound in let s : bodies ≡ f.bodies = bodies_are (flushes init f) is in omega (b, s, arith)

      bound_open : (link : LinkRecord) → IsBounded None app old (ended link None) before after bodies
      bound_open link =
          let b = m.stepped.bound in
          let s : bodies ≡ f.bodies = bodies_are (flushes init f) is in
          let same : missing app (ended link None) ≡ missing_readers app flusher.kept.session f.state = ap (missing_readers app flusher.kept.session) state_is in
          omega (b, s, same, arith)

      goes : (link : LinkRecord) → expected ≡ done → GoesOn (ended link None)
      goes link p = record {
        app = app_stays ∙ has.goes_on.app;
        stage = subst (λ stage. IsStageOf app behind stage) (sym (goes_on p).0) begun_is;
        stands = subst (StandsWholly app flusher.kept) (sym state_is) m.stepped.stands;
        settled = λ h. (goes_on p).1;
      }

      came_to : (link : LinkRecord) (sends : LinkSends old.link link sent send.Ok)
          → Handles event old (ended link (reason_for expected)) before after (turned_by (reason_for expected))
      came_to link l = by expected refl
        where
          by : (x : FlushEnd) → expected ≡ x → Handles event old (ended link (reason_for x)) before after (turned_by (reason_for x))
          by done p = handles link None l.label l.received l.script l.later (all_sent link.sent l.sends) (ends_for done (m.end ∙ p)) tt (λ h. goes link p) (bound_open link) (λ h. jobs)
          by budget_spent p = handles link (Some reason.BudgetSpent) l.label l.received l.script l.later (all_sent link.sent l.sends) (ends_for budget_spent (m.end ∙ p)) tt (λ h. cc) bound_over (λ h. cc)
          by (observer_failed why) p = handles link (Some (reason.ObserverFailed why)) l.label l.received l.script l.later (all_sent link.sent l.sends) (ends_for (observer_failed why) (m.end ∙ p)) tt (λ h. cc) bound_over (λ h. cc)

      front_sent : (link : LinkRecord) → SendsFront old.link.sent link.sent sent → SendsFront old.link.sent link.sent texts
      front_sent link s = record {
        front = s.front;
        is_front = record { rest = s.is_front.rest; is = texts_are (flushes init f) is ∙ sym m.texts ∙ s.is_front.is };
        sent = s.sent;
      }

      sent_so : (link : LinkRecord) (came : Sent) → LinkSends old.link link sent came
          → Handles event old (ended link (over_after (reason_for expected) came)) before after (turned_by (over_after (reason_for expected) came))
      sent_so link send.Ok l = came_to link l
      sent_so link send.Failed l = handles link (Some reason.LinkFailed) l.label l.received l.script l.later (front_sent link l.sends) may_fail_is l.failed (λ h. cc) bound_over (λ h. cc)
      sent_so link send.Memory l = handles link (Some reason.LinkMemory) l.label l.received l.script l.later (front_sent link l.sends) may_fail_is tt (λ h. cc) bound_over (λ h. cc)

      flushed_so : (new : Hosting) (answer : Turned) → Sending started new sent (reason_for expected) answer → Handles event old new before after answer
      flushed_so new answer s =
          subst (λ n. Handles event old n before after answer) (sym s.rest)
          (subst (λ a. Handles event old (ended new.link (over_after (reason_for expected) s.came)) before after a) (sym s.answer_is) (sent_so new.link s.came s.link))

    by_answer : (answer : Flushed) (new : Hosting) (turned : Turned)
        → MakesFlush app init old.flusher flusher before after (state_after app old.journal) f wanted answer
        → Says started new (Came answer) turned → Handles event old new before after turned
    by_answer flushed.Memory new turned m s =
        closed reason.Memory new turned (for_want_of_memory (let b = m.ends in let k : bodies ≡ f.bodies = bodies_are (flushes init f) is in omega (b, k, arith))) s
    by_answer (flushed.Done sent) new turned m s = flushed_so done sent m.ends m.app_stays (λ p. (m.stage, m.settled)) m.jobs new turned s
    by_answer (flushed.BudgetSpent sent) new turned m s = flushed_so budget_spent sent m.ends m.app_stays (λ p. cc) m.jobs new turned s
    by_answer (flushed.ObserverFailed why sent) new turned m s = flushed_so (observer_failed why) sent m.ends m.app_stays (λ p. cc) m.jobs new turned s

  by_effect : (e : Effect) (applied : Applied) (new : Hosting) (answer : Turned) → event_effect app so_far event ≡ e
      → Does app old.link.label (state_after app old.journal) e old.flusher flusher before after applied
      → Says started new applied answer → Handles event old new before after answer
  by_effect e Unread new answer is d s = closed reason.Memory new answer (for_want_of_memory (nothing_done (unread e d))) s
    where
      unread : (e : Effect) → Does app old.link.label (state_after app old.journal) e old.flusher flusher before after Unread → DoesNothing old.flusher flusher before after
      unread (flushes init f) d = d
      unread (refuses cause) d = d
      unread ends d = d
      unread nothing d = d
  by_effect (refuses cause) (Refused why) new answer is d s =
      closed (reason.Refused (length (filter is_item behind)) why) new answer
      (refused_so why (is ∙ ap refuses (sym d.0)) d.1) s
  by_effect (flushes init f) (Came answer) new turned is d s = by_answer init f is answer new turned d s
  by_effect (flushes init f) (Refused why) new answer is d s = absurd d
  by_effect ends (Refused why) new answer is d s = absurd d
  by_effect nothing (Refused why) new answer is d s = absurd d
  by_effect (refuses cause) (Came answer) new turned is d s = absurd d
  by_effect ends (Came answer) new turned is d s = absurd d
  by_effect nothing (Came answer) new turned is d s = absurd d

-- an open session with this event, which came to this in the Flusher, has journaled and answered it
pub handled : (event : Event) (old new : Hosting) (flusher : Flushing) (room before after : ℕ) (applied : Applied) (answer : Turned)
    → Has event old
    → Does (shape_of old.app) old.link.label (state_after (shape_of old.app) old.journal)
    (event_effect (shape_of old.app) (journal_result (shape_of old.app) old.journal) event) old.flusher flusher before after applied
    → Says (journaled event flusher room old) new applied answer
    → Handles event old new before after answer
handled event old new flusher room before after applied answer has does says =
    by_effect event old flusher room before after has
    (event_effect (shape_of old.app) (journal_result (shape_of old.app) old.journal) event) applied new answer refl does says

-- the same of a journal that has come to have it
pub handled_behind : (event : Event) (old new : Hosting) (flusher : Flushing) (journal : List Event) (room before after : ℕ) (applied : Applied) (answer : Turned)
    → Has event old → journal ≡ old.journal ++ event ∷ []
    → Does (shape_of old.app) old.link.label (state_after (shape_of old.app) old.journal)
    (event_effect (shape_of old.app) (journal_result (shape_of old.app) old.journal) event) old.flusher flusher before after applied
    → Says (record old { journal = journal; room = room; flusher = flusher }) new applied answer
    → Handles event old new before after answer
handled_behind event old new flusher journal room before after applied answer has behind does says =
    handled event old new flusher room before after applied answer has does
    (subst (λ j. Says (record old { journal = j; room = room; flusher = flusher }) new applied answer) behind says)

-- ---- of a session that is seen so

module _ {seen now : Hosting} (is : seen ≡ now) (new : Hosting) (flusher : Flushing) (journal : List Event) (room before after : ℕ) (answer : Turned) where
  there : (event : Event) → Has event now → Has event seen
  there event has = subst (Has event) (sym is) has

  here : (event : Event) → Handles event seen new before after answer → Handles event now new before after answer
  here event h = subst (λ s. Handles event s new before after answer) is h

  pub text_handled : (text label : List ℕ) (read : Result Client Memory) (applied : Applied)
      → Has (Text text) now → journal ≡ seen.journal ++ Text text ∷ [] → label ≡ seen.link.label
      → IfOk read (λ c. c ≡ client_message text)
      → ((state : SessionState) → StandsWholly (shape_of seen.flusher.app) seen.flusher.kept state
      → (client : Client) → IfOk read (λ c. c ≡ client)
      → Does (shape_of seen.flusher.app) label state (message_effect (shape_of seen.flusher.app) (is_open seen.flusher.stage) state client)
      seen.flusher flusher before after applied)
      → Says (record seen { journal = journal; room = room; flusher = flusher }) new applied answer
      → Handles (Text text) now new before after answer
  text_handled text label read applied has behind named came does says =
      here (Text text) (handled_behind (Text text) seen new flusher journal room before after applied answer (there (Text text) has) behind
      (text_does text seen flusher before after read applied (there (Text text) has) came
      (λ state stands client so. subst (λ l. Does (shape_of seen.flusher.app) l state (message_effect (shape_of seen.flusher.app) (is_open seen.flusher.stage) state client) seen.flusher flusher before after applied) named (does state stands client so)))
      says)

  pub task_handled : (task number : ℕ) (came : Flushed)
      → Has (TaskEnd task number) now → journal ≡ seen.journal ++ TaskEnd task number ∷ []
      → flusher.app ≡ seen.flusher.app → flusher.stage ≡ stage_after came
      → Flushes (shape_of seen.flusher.app) false seen.flusher flusher before after
      (flush_task_end (shape_of seen.flusher.app) task) (later_texts (shape_of seen.flusher.app)) came
      → IfDone came (IsSettled (shape_of seen.flusher.app) flusher.kept)
      → IfNotMemory came (StartsBehind seen.flusher flusher)
      → Says (record seen { journal = journal; room = room; flusher = flusher }) new (Came came) answer
      → Handles (TaskEnd task number) now new before after answer
  task_handled task number came has behind app_stays stage flushed settled jobs says =
      here (TaskEnd task number) (handled_behind (TaskEnd task number) seen new flusher journal room before after (Came came) answer own behind
      (task_does (shape_of seen.app) seen.link.label seen.journal task number seen.flusher flusher before after came own.running
      (subst (λ (a : Held). MakesFlush (shape_of a) false seen.flusher flusher before after (state_after (shape_of seen.app) seen.journal)
      (flush_task_end (shape_of a) task (state_after (shape_of seen.app) seen.journal))
      (later_texts (shape_of a) (flush_task_end (shape_of a) task (state_after (shape_of seen.app) seen.journal))) came) own.goes_on.app
      (record {
        app_stays = app_stays;
        stage = stage;
        ends = flushed (state_after (shape_of seen.app) seen.journal)
            (subst (λ (a : Held). StandsWholly (shape_of a) seen.flusher.kept (state_after (shape_of seen.app) seen.journal)) (sym own.goes_on.app) own.goes_on.stands);
        settled = settled;
        jobs = jobs;
      }))) says)
    where
      own : Has (TaskEnd task number) seen
      own = there (TaskEnd task number) has

pub other_handled : {seen now : Hosting} (is : seen ≡ now) (new : Hosting) (journal : List Event) (room bodies : ℕ) (answer : Turned)
    → Has Other now → journal ≡ seen.journal ++ Other ∷ []
    → Says (record seen { journal = journal; room = room }) new (Refused bad.Other) answer
    → Handles Other now new bodies bodies answer
other_handled {seen} {now} is new journal room bodies answer has behind says =
    here is new seen.flusher journal room bodies bodies answer Other
    (handled_behind Other seen new seen.flusher journal room bodies bodies (Refused bad.Other) answer
    (there is new seen.flusher journal room bodies bodies answer Other has) behind (refl, record { flusher = refl; bodies = refl }) says)
