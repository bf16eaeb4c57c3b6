-- What a turn comes to, and the end of a task, from what was done with the event.
use Rattle.std.proofs.Common.{◌≡◌, inr, ◌≤◌, ℕ, false, List, [], ◌∷◌, ◌++◌, Option, Some, None, refl, sym, ap, ◌∙◌, subst, arith, append-nil}
use Rattle.app_tree.specs.Tree.{Shape}
use Rattle.app_tree.specs.View.{shape_of}
use Rattle.rx_ports.specs.Faults.{Rose}
use Rattle.session_model.specs.declared.event.Event.{Event}
use Rattle.session_model.specs.declared.event.Event.TheVariants.{TaskEnd, End}
use Rattle.session_model.specs.declared.reason.Reason.{Reason}
use Rattle.session_model.specs.declared.reason.Reason.TheVariants as reason
use Rattle.session_model.specs.Alone.{JournalResult, ends, effect, effect_from, effect_texts, journal_result, items_after, result_after, texts_of_event, bodies_of_event, ending}
use Rattle.session_model.specs.Journal.{is_full}
use Rattle.session_model.specs.Faithful.{LinkRecord, EndsFor}
use Rattle.session_laws.proofs.Journals.{journal_result-more}
use Rattle.session_host.specs.Hosting.{Hosting}
use Rattle.session_host.specs.Keeping.{IsHosted}
use Rattle.session_host.specs.Turning.{Stays, Gives, Sends, IsBounded, Answers, Journals, IsItem, JournalsItem, EndsTurn, Turns, EndsWithTask, EndsTask, is_journal_full}
use Rattle.session_host.specs.declared.turned.Turned.{Turned}
use Rattle.session_host.specs.declared.turned.Turned.TheVariants.{Over}
use Rattle.session_host.specs.inner.Sending.{Closes, turned_by}
use Rattle.session_host.specs.inner.Answering.{Has, MayEndBy, Handles}
use Rattle.session_host.proofs.FaithfulGrows.{faithful_behind}

-- a session that has this event, since its link gave it, or a task
pub record IsAsked (event : Event) (old mid : Hosting) : Type 0 where
  pub app : mid.app ≡ old.app
  pub label : mid.link.label ≡ old.link.label
  pub sent : mid.link.sent ≡ old.link.sent
  pub later : old.link.faults ≤ mid.link.faults
  pub gives : Gives event old.link.script mid.link.script
  pub journal : mid.journal ≡ old.journal
  pub flusher : mid.flusher ≡ old.flusher

-- what the link was given beside counts no bodies
bounded : (o : Option Reason) (app : Shape) (old new : Hosting) (link : LinkRecord) (room : ℕ) (over : Option Reason) (before after bodies : ℕ)
    → IsBounded o app (record old { link = link; room = room; over = over }) new before after bodies → IsBounded o app old new before after bodies
bounded None app old new link room over before after bodies h = h
bounded (Some why) app old new link room over before after bodies h = h

pub rose_since : (before between now : ℕ) → before ≤ between → Rose between now → Rose before now
rose_since before between now l r = omega (l, r, arith)

module _ (event : Event) (old mid new : Hosting) (before after : ℕ) (answer : Turned) (asked : IsAsked event old mid) (h : Handles event mid new before after answer) where
  mid_is : mid ≡ record old { link = mid.link; room = mid.room; over = mid.over }
  mid_is = λ j. record { app = asked.app j; link = mid.link; journal = asked.journal j; room = mid.room; over = mid.over; flusher = asked.flusher j }

  pub stays_so : Stays old new
  stays_so = record {
    app = h.stays.app ∙ asked.app;
    label = h.stays.label ∙ asked.label;
    later = (let x = asked.later in let y = h.stays.later in omega (x, y, arith));
  }

  there : Answers (shape_of old.app) (record old { link = mid.link; room = mid.room; over = mid.over }) new before after event
  there = subst (λ m. Answers (shape_of m.app) m new before after event) mid_is h.answers

  answers_so : Answers (shape_of old.app) old new before after event
  answers_so = record {
    journal = there.journal;
    sends = subst (λ s. Sends new.over s new.link.sent (texts_of_event (shape_of old.app) old.link.label (journal_result (shape_of old.app) old.journal) event)) asked.sent
        (subst (λ l. Sends new.over mid.link.sent new.link.sent (texts_of_event (shape_of old.app) l (journal_result (shape_of old.app) old.journal) event)) asked.label there.sends);
    bound = bounded new.over (shape_of old.app) old new mid.link mid.room mid.over before after (bodies_of_event (shape_of old.app) (journal_result (shape_of old.app) old.journal) event) there.bound;
    jobs = there.jobs;
  }

  pub journals_so : Journals (shape_of old.app) old new before after event
  journals_so = record { gives = subst (Gives event old.link.script) (sym h.script) asked.gives; answers = answers_so }

  abbrev rises : Type 0
  rises = Rose mid.link.faults new.link.faults

  rose_so : rises → Rose old.link.faults new.link.faults
  rose_so r = rose_since old.link.faults mid.link.faults new.link.faults asked.later r

  pub not_full : is_journal_full new.over ≡ false
  not_full = by new.over h.may_end
    where
      by : (o : Option Reason) → MayEndBy (IsItem event) rises o → is_journal_full o ≡ false
      by None m = refl
      by (Some reason.JournalFull) m = absurd m
      by (Some reason.Ended) m = refl
      by (Some (reason.Refused k cause)) m = refl
      by (Some reason.BudgetSpent) m = refl
      by (Some (reason.ObserverFailed t)) m = refl
      by (Some reason.LinkFailed) m = refl
      by (Some reason.LinkMemory) m = refl
      by (Some reason.Memory) m = refl

  -- an item of the client
  pub item_turns : IsItem event → Turns (shape_of old.app) old new before after answer
  item_turns is = by new.over refl h.may_end
    where
      item : JournalsItem (shape_of old.app) old new before after
      item = record { event = event; is_item = is; journals = journals_so }

      ends_so : (why : Reason) → MayEndBy (IsItem event) rises (Some why) → EndsTurn (shape_of old.app) old new before after (Some why)
      ends_so reason.JournalFull m = absurd m
      ends_so reason.Ended m = absurd m
      ends_so (reason.Refused k cause) m = item
      ends_so reason.BudgetSpent m = item
      ends_so (reason.ObserverFailed t) m = item
      ends_so reason.LinkFailed m = (rose_so m, inr item)
      ends_so reason.LinkMemory m = inr item
      ends_so reason.Memory m = inr item

      by : (o : Option Reason) → new.over ≡ o → MayEndBy (IsItem event) rises o → Turns (shape_of old.app) old new before after answer
      by None p m = subst (Turns (shape_of old.app) old new before after) (sym (h.answer_is ∙ ap turned_by p)) (p, item)
      by (Some why) p m =
          subst (Turns (shape_of old.app) old new before after) (sym (h.answer_is ∙ ap turned_by p))
          (subst (EndsTurn (shape_of old.app) old new before after) (sym p) (ends_so why m))

-- the end of a task
pub task_turns : (task number : ℕ) (old mid new : Hosting) (before after : ℕ) (answer : Turned) → IsAsked (TaskEnd task number) old mid
    → Handles (TaskEnd task number) mid new before after answer → EndsTask (shape_of old.app) old new before after task number answer
task_turns task number old mid new before after answer asked h = by new.over refl h.may_end
  where
    journals : Journals (shape_of old.app) old new before after (TaskEnd task number)
    journals = journals_so (TaskEnd task number) old mid new before after answer asked h

    ends_so : (why : Reason) → MayEndBy ⊥ (Rose mid.link.faults new.link.faults) (Some why)
        → EndsWithTask (shape_of old.app) old new before after (TaskEnd task number) (Some why)
    ends_so reason.JournalFull m = absurd m
    ends_so reason.Ended m = absurd m
    ends_so (reason.Refused k cause) m = absurd m
    ends_so reason.BudgetSpent m = journals
    ends_so (reason.ObserverFailed t) m = journals
    ends_so reason.LinkFailed m = (rose_since old.link.faults mid.link.faults new.link.faults asked.later m, journals)
    ends_so reason.LinkMemory m = journals
    ends_so reason.Memory m = inr journals

    by : (o : Option Reason) → new.over ≡ o → MayEndBy ⊥ (Rose mid.link.faults new.link.faults) o
        → EndsTask (shape_of old.app) old new before after task number answer
    by None p m = subst (EndsTask (shape_of old.app) old new before after task number) (sym (h.answer_is ∙ ap turned_by p)) (p, journals)
    by (Some why) p m =
        subst (EndsTask (shape_of old.app) old new before after task number) (sym (h.answer_is ∙ ap turned_by p))
        (subst (EndsWithTask (shape_of old.app) old new before after (TaskEnd task number)) (sym p) (ends_so why m))

-- ---- the link's end

-- an open session whose link has ended is over for that reason
pub record EndsSo (old new : Hosting) : Type 0 where
  pub kept : IsHosted new
  pub stays : Stays old new
  pub script : new.link.script ≡ old.link.script
  pub answers : (bodies : ℕ) → Answers (shape_of old.app) old new bodies bodies End
  pub over : new.over ≡ Some reason.Ended

pub link_ended : (old new : Hosting) (journal : List Event) (room : ℕ) (answer : Turned)
    → Has End old → journal ≡ old.journal ++ End ∷ [] → Closes (record old { journal = journal; room = room }) new reason.Ended answer → EndsSo old new
link_ended old new journal room answer has behind closes =
    subst (EndsSo old) (sym (closes.rest ∙ ap (λ j. record old { journal = j; room = room; over = Some reason.Ended }) behind)) so
  where
    app : Shape
    app = shape_of old.app

    so_far : JournalResult
    so_far = journal_result app old.journal

    effect_is : effect app so_far End ≡ ends
    effect_is = ap (λ o. effect_from app so_far o End) has.faithful.ends

    sends : old.link.sent ≡ old.link.sent ++ texts_of_event app old.link.label so_far End
    sends = sym (append-nil old.link.sent) ∙ ap (λ l. old.link.sent ++ l) (sym (ap (effect_texts app old.link.label) effect_is))

    is_ended : EndsFor (Some reason.Ended) (ending app (old.journal ++ End ∷ []))
    is_ended = subst (EndsFor (Some reason.Ended))
        (sym (ap (λ (r : JournalResult). r.ending) (journal_result-more app old.journal End ∙ ap (result_after so_far (items_after End so_far.items)) effect_is))) refl

    so : EndsSo old (record old { journal = old.journal ++ End ∷ []; room = room; over = Some reason.Ended })
    so = record {
      kept = record {
        faithful = faithful_behind End old old.link (Some reason.Ended) has refl refl refl sends is_ended (λ h. cc) (λ h. cc);
        goes_on = λ h. cc;
      };
      stays = record { app = refl; label = refl; later = omega arith };
      script = refl;
      answers = λ bodies. record { journal = refl; sends = sends; bound = omega arith; jobs = λ h. cc };
      over = refl;
    }

-- so it has turned
pub end_turns : (old mid new : Hosting) (before : ℕ) (answer : Turned) → IsAsked End old mid
    → new.link.script ≡ mid.link.script → ((bodies : ℕ) → Answers (shape_of mid.app) mid new bodies bodies End)
    → new.over ≡ Some reason.Ended → answer ≡ Over
    → Turns (shape_of old.app) old new before before answer
end_turns old mid new before answer asked script answers over is =
    subst (Turns (shape_of old.app) old new before before) (sym is) (subst (EndsTurn (shape_of old.app) old new before before) (sym over) journals)
  where
    mid_so : mid ≡ record old { link = mid.link; room = mid.room; over = mid.over }
    mid_so = λ j. record { app = asked.app j; link = mid.link; journal = asked.journal j; room = mid.room; over = mid.over; flusher = asked.flusher j }

    there_so : Answers (shape_of old.app) (record old { link = mid.link; room = mid.room; over = mid.over }) new before before End
    there_so = subst (λ m. Answers (shape_of m.app) m new before before End) mid_so (answers before)

    journals : Journals (shape_of old.app) old new before before End
    journals = record {
      gives = subst (Gives End old.link.script) (sym script) asked.gives;
      answers = record {
        journal = there_so.journal;
        sends = subst (λ s. Sends new.over s new.link.sent (texts_of_event (shape_of old.app) old.link.label (journal_result (shape_of old.app) old.journal) End)) asked.sent
            (subst (λ l. Sends new.over mid.link.sent new.link.sent (texts_of_event (shape_of old.app) l (journal_result (shape_of old.app) old.journal) End)) asked.label there_so.sends);
        bound = bounded new.over (shape_of old.app) old new mid.link mid.room mid.over before before (bodies_of_event (shape_of old.app) (journal_result (shape_of old.app) old.journal) End) there_so.bound;
        jobs = there_so.jobs;
      };
    }

-- ---- of a session that is seen so

-- what a turn says of its session
pub record TurnsSo (old new : Hosting) (before after : ℕ) (answer : Turned) : Type 0 where
  pub stays : Stays old new
  pub turns : Turns (shape_of old.app) old new before after answer
  pub full : is_journal_full new.over ≡ is_full old.journal

pub item_turned : {seen now mid new : Hosting} {before after : ℕ} {answer : Turned} (event : Event) → seen ≡ now → IsItem event
    → Handles event mid new before after answer → IsAsked event seen mid → is_full seen.journal ≡ false → TurnsSo now new before after answer
item_turned {seen} {now} {mid} {new} {before} {after} {answer} event is item h asked room =
    subst (λ s. TurnsSo s new before after answer) is
    (record {
      stays = stays_so event seen mid new before after answer asked h;
      turns = item_turns event seen mid new before after answer asked h item;
      full = not_full event seen mid new before after answer asked h ∙ sym room;
    })

pub end_turned : {seen now mid new : Hosting} {answer : Turned} (before : ℕ) → seen ≡ now
    → new.link.script ≡ mid.link.script → ((bodies : ℕ) → Answers (shape_of mid.app) mid new bodies bodies End)
    → new.over ≡ Some reason.Ended → answer ≡ Over → IsAsked End seen mid
    → Turns (shape_of now.app) now new before before answer
end_turned {seen} {now} {mid} {new} {answer} before is script answers over ended asked =
    subst (λ s. Turns (shape_of s.app) s new before before answer) is (end_turns seen mid new before answer asked script answers over ended)

pub task_turned : {seen now mid new : Hosting} {before after : ℕ} {answer : Turned} (task number : ℕ) → seen ≡ now
    → Handles (TaskEnd task number) mid new before after answer → IsAsked (TaskEnd task number) seen mid
    → EndsTask (shape_of now.app) now new before after task number answer
task_turned {seen} {now} {mid} {new} {before} {after} {answer} task number is h asked =
    subst (λ s. EndsTask (shape_of s.app) s new before after task number answer) is (task_turns task number seen mid new before after answer asked h)

pub link_ended_in : {seen now : Hosting} (is : seen ≡ now) (new : Hosting) (journal : List Event) (room : ℕ) (answer : Turned)
    → Has End now → journal ≡ seen.journal ++ End ∷ [] → Closes (record seen { journal = journal; room = room }) new reason.Ended answer → EndsSo now new
link_ended_in {seen} {now} is new journal room answer has behind closes =
    subst (λ s. EndsSo s new) is (link_ended seen new journal room answer (subst (Has End) (sym is) has) behind closes)
