-- A session's record stays faithful when an event is journaled and answered.
use Rattle.std.proofs.Common.{◌≡◌, ◌≢◌, inl, inr, ◌<◌, ℕ, true, false, List, [], ◌∷◌, ◌++◌, Option, Some, None, sym, ap, ◌∙◌, subst, append_assoc, append-nil}
use Rattle.std.specs.Prelude.{IfSome}
use Rattle.app_tree.specs.Tree.{Shape}
use Rattle.app_tree.specs.View.{shape_of}
use Rattle.rx_ports.specs.Link.{Script}
use Rattle.session_model.specs.declared.event.Event.{Event}
use Rattle.session_model.specs.declared.event.Event.TheVariants.{Text, Other, TaskEnd, End}
use Rattle.session_model.specs.declared.reason.Reason.{Reason}
use Rattle.session_model.specs.declared.reason.Reason.TheVariants as reason
use Rattle.session_model.specs.Alone.{journal_result, texts_of_event, answers, ending}
use Rattle.session_model.specs.Journal.{is_full}
use Rattle.session_model.specs.Faithful.{LinkRecord, client_items, has_end, EndsFor, IsFront, IsSent, IsFaithful}
use Rattle.session_laws.proofs.Journals.{answers-more}
use Rattle.session_host.specs.Hosting.{Hosting}
use Rattle.session_host.specs.Turning.{Gives, SendsFront, Sends}
use Rattle.session_host.specs.inner.Answering.{LinkGives, Has}
use Rattle.session_host.proofs.JournalGrows.{client_items-more, without_last-more, running-more, no_end, is_end, has_end-more, ends_only_last}

-- what was sent behind the answers so far
sent_behind : (app : Shape) (label : List ℕ) (journal : List Event) (event : Event) (old new : List (List ℕ)) (why : Option Reason)
    → old ≡ answers app label journal
    → Sends why old new (texts_of_event app label (journal_result app journal) event)
    → IsSent app label (journal ++ event ∷ []) why new
sent_behind app label journal event old new why p s = by why s
  where
    texts : List (List ℕ)
    texts = texts_of_event app label (journal_result app journal) event

    more : answers app label (journal ++ event ∷ []) ≡ answers app label journal ++ texts
    more = answers-more app label journal event

    all : new ≡ old ++ texts → new ≡ answers app label (journal ++ event ∷ [])
    all s = s ∙ ap (λ l. l ++ texts) p ∙ sym more

    front : SendsFront old new texts → IsFront new (answers app label (journal ++ event ∷ []))
    front s = record {
      rest = s.is_front.rest;
      is = more ∙ ap (λ l. answers app label journal ++ l) s.is_front.is ∙ sym (append_assoc (answers app label journal) s.front s.is_front.rest)
          ∙ ap (λ l. (l ++ s.front) ++ s.is_front.rest) (sym p) ∙ ap (λ l. l ++ s.is_front.rest) (sym s.sent);
    }

    by : (why : Option Reason) → Sends why old new texts → IsSent app label (journal ++ event ∷ []) why new
    by None s = all s
    by (Some reason.Ended) s = all s
    by (Some (reason.Refused k cause)) s = all s
    by (Some reason.BudgetSpent) s = all s
    by (Some (reason.ObserverFailed t)) s = all s
    by (Some reason.JournalFull) s = all s
    by (Some reason.LinkFailed) s = front s
    by (Some reason.LinkMemory) s = front s
    by (Some reason.Memory) s = inr (s ∙ p ∙ ap (answers app label) (sym (without_last-more journal event)))

-- the script of a link that has ended
ended_script : (event : Event) (old new : Option Script) → Gives event old new → is_end event ≡ true
    → IfSome new (λ script. script ≡ record { left = []; ended = true })
ended_script (Text t) old new g h = cc
ended_script Other old new g h = cc
ended_script (TaskEnd t number) old new g h = cc
ended_script End old new g h = g.none

-- An open session that has this event becomes a faithful one that has journaled it, for each way in which it ends there.
pub faithful_behind : (event : Event) (h : Hosting) (link : LinkRecord) (why : Option Reason)
    → Has event h
    → link.label ≡ h.link.label → link.received ≡ h.link.received → link.script ≡ h.link.script
    → Sends why h.link.sent link.sent (texts_of_event (shape_of h.app) h.link.label (journal_result (shape_of h.app) h.journal) event)
    → EndsFor why (ending (shape_of h.app) (h.journal ++ event ∷ []))
    → (why ≡ Some reason.LinkFailed → 0 < link.faults)
    → why ≢ Some reason.JournalFull
    → IsFaithful (shape_of h.app) link (h.journal ++ event ∷ []) why
faithful_behind event h link why has label received script sends ends fault full = record {
  running = running-more app h.journal event was.running has.running;
  last = ends_only_last h.journal event none;
  ends = ends;
  fault = fault;
  full = λ e. absurd (full e);
  received = client_items-more h.journal event ∙ ap (λ l. l ++ client_items (event ∷ [])) was.received ∙ sym came.received ∙ sym received;
  sent = subst (λ l. IsSent app l (h.journal ++ event ∷ []) why link.sent) (sym label)
      (sent_behind app h.link.label h.journal event h.link.sent link.sent why (came.sent ∙ was_sent) sends);
  ended = λ e. subst (λ (s : Option Script). IfSome s (λ script. script ≡ record { left = []; ended = true })) (sym script)
      (ended_script event has.link.script h.link.script came.gives (sym (has_end-more h.journal event none) ∙ e));
}
  where
    app : Shape
    app = shape_of h.app

    was : IsFaithful app has.link h.journal None
    was = has.faithful

    came : LinkGives event has.link h.link
    came = has.came

    none : has_end h.journal ≡ false
    none = no_end app h.journal was.ends

    was_sent : has.link.sent ≡ answers app h.link.label h.journal
    was_sent = subst (λ l. has.link.sent ≡ answers app l h.journal) (sym came.label) was.sent

-- and where nothing is journaled, for each reason that says so: it has sent what it had sent, and it may end so wherever it is
pub faithful_there : (app : Shape) (old new : LinkRecord) (journal : List Event) (why : Option Reason)
    → IsFaithful app old journal None
    → new.label ≡ old.label → new.received ≡ old.received → new.sent ≡ old.sent → new.script ≡ old.script
    → EndsFor why None
    → (why ≡ Some reason.LinkFailed → 0 < new.faults)
    → (why ≡ Some reason.JournalFull → is_full journal ≡ true)
    → IsFaithful app new journal why
faithful_there app old new journal why was label received sent script ends fault full = record {
  running = was.running;
  last = was.last;
  ends = subst (EndsFor why) (sym was.ends) ends;
  fault = fault;
  full = full;
  received = was.received ∙ sym received;
  sent = subst (λ l. IsSent app l journal why new.sent) (sym label) (by why ends);
  ended = λ e. subst (λ (s : Option Script). IfSome s (λ script. script ≡ record { left = []; ended = true })) (sym script) (was.ended e);
}
  where
    is_sent : new.sent ≡ answers app old.label journal
    is_sent = sent ∙ was.sent

    front : IsFront new.sent (answers app old.label journal)
    front = record { rest = []; is = sym is_sent ∙ sym (append-nil new.sent) }

    by : (why : Option Reason) → EndsFor why None → IsSent app old.label journal why new.sent
    by None e = is_sent
    by (Some reason.JournalFull) e = is_sent
    by (Some reason.LinkFailed) e = front
    by (Some reason.LinkMemory) e = front
    by (Some reason.Memory) e = inl is_sent
    by (Some reason.Ended) e = is_sent
    by (Some (reason.Refused k cause)) e = is_sent
    by (Some reason.BudgetSpent) e = is_sent
    by (Some (reason.ObserverFailed t)) e = is_sent
