-- Which journals are faithful, computed.
use Rattle.std.proofs.Common.{◌≡◌, ◌≤◌, ℕ, zero, suc, Bool, true, false, List, [], ◌∷◌, ◌++◌, length, replicate, Option, Some, None, nat_le, nat_lt, ◌||◌, codes, refl, sym, ap, subst, ◌∙◌, inr, arith}
use Rattle.std.proofs.lemmas.Bool.Decides.{nat_tests}
use lib.ListN.{length-replicate}
use Rattle.std.specs.Fmt.{digits}
use Rattle.serde_json.proofs.OnLiterals.{serde_json_on_literals}
use Rattle.rx_ports.specs.Link.{Script}
use Rattle.rx_ports.specs.declared.link.LinkItem.{LinkItem}
use Rattle.rx_ports.specs.declared.link.LinkItem.TheVariants as item
use Rattle.session_model.specs.declared.event.Event.{Event}
use Rattle.session_model.specs.declared.event.Event.TheVariants.{Text}
use Rattle.session_model.specs.declared.reason.Reason.{Reason}
use Rattle.session_model.specs.State.{first_state}
use Rattle.session_model.specs.Journal.{text_bytes, is_full}
use Rattle.session_model.specs.Alone.{JournalResult, first_result, after_event, texts_of_event, result_from, answers_from, answers, ending}
use Rattle.session_model.specs.Faithful.{client_items, EachOfRunning, EndsOnlyLast, has_end}
use Rattle.session_model.specs.FaithfulExamples.{empty_app, init, update, config, busy, no_values, idle, OpenIsFaithful, EndedIsFaithful, LinkFailedIsFaithful, RefusedIsFaithful, BudgetSpentIsFaithful, ObserverFailedIsFaithful, JournalFullIsFaithful, MemoryIsFaithful, LinkMemoryIsFaithful, RealLinkIsFaithful, WithheldText, UnjournaledItem, UncountedFault, ShortJournal, EarlyEnd, EndOfAnotherInvocation, EventBehindTheEnd, OpenBehindTheEnd, FailureBehindARefusal, FailureBehindTheEnd}
use Rattle.session_model.specs.declared.limits.TheConstants.{EVENT_LIMIT, JOURNAL_TEXT_LIMIT}

not_both : {b : Bool} → b ≡ true → b ≡ false → ⊥
not_both p q = cc

-- ---- one for each kind of end

pub open_is_faithful : OpenIsFaithful
unfolding serde_json_on_literals digits
open_is_faithful = record {
  running = (tt, (refl, tt));
  last = tt;
  ends = refl;
  fault = λ e. cc;
  full = λ e. cc;
  received = refl;
  sent = refl;
  ended = λ e. cc;
}

pub ended_is_faithful : EndedIsFaithful
unfolding serde_json_on_literals digits
ended_is_faithful = record {
  running = (tt, (tt, tt));
  last = refl;
  ends = refl;
  fault = λ e. cc;
  full = λ e. cc;
  received = refl;
  sent = refl;
  ended = λ e. refl;
}

pub link_failed_is_faithful : LinkFailedIsFaithful
unfolding serde_json_on_literals digits
link_failed_is_faithful = record {
  running = (tt, tt);
  last = tt;
  ends = refl;
  fault = λ e. omega arith;
  full = λ e. cc;
  received = refl;
  sent = record { rest = busy ∷ no_values ∷ idle ∷ []; is = refl };
  ended = λ e. cc;
}

pub refused_is_faithful : RefusedIsFaithful
unfolding serde_json_on_literals digits
refused_is_faithful = record {
  running = (tt, tt);
  last = tt;
  ends = refl;
  fault = λ e. cc;
  full = λ e. cc;
  received = refl;
  sent = refl;
  ended = λ e. cc;
}

pub budget_spent_is_faithful : BudgetSpentIsFaithful
unfolding serde_json_on_literals digits
budget_spent_is_faithful = record {
  running = (tt, tt);
  last = tt;
  ends = refl;
  fault = λ e. cc;
  full = λ e. cc;
  received = refl;
  sent = refl;
  ended = λ e. cc;
}

pub observer_failed_is_faithful : ObserverFailedIsFaithful
unfolding serde_json_on_literals digits
observer_failed_is_faithful = record {
  running = (tt, tt);
  last = tt;
  ends = refl;
  fault = λ e. cc;
  full = λ e. cc;
  received = refl;
  sent = refl;
  ended = λ e. cc;
}

pub memory_is_faithful : MemoryIsFaithful
unfolding serde_json_on_literals digits
memory_is_faithful = record {
  running = (tt, tt);
  last = tt;
  ends = tt;
  fault = λ e. cc;
  full = λ e. cc;
  received = refl;
  sent = inr refl;
  ended = λ e. cc;
}

pub link_memory_is_faithful : LinkMemoryIsFaithful
unfolding serde_json_on_literals digits
link_memory_is_faithful = record {
  running = (tt, tt);
  last = tt;
  ends = refl;
  fault = λ e. cc;
  full = λ e. cc;
  received = refl;
  sent = record { rest = no_values ∷ idle ∷ []; is = refl };
  ended = λ e. cc;
}

pub real_link_is_faithful : RealLinkIsFaithful
unfolding serde_json_on_literals digits
real_link_is_faithful = record {
  running = (tt, (tt, tt));
  last = tt;
  ends = refl;
  fault = λ e. cc;
  full = λ e. cc;
  received = refl;
  sent = refl;
  ended = λ e. cc;
}

-- ---- a full journal: one update leaves the session as it is but for the count of items, and so do as many as you like

-- behind the init, with so many items
abbrev idle_for : ℕ → JournalResult
idle_for i = record { state = first_state empty_app; begun = true; items = i; bodies = 0; ending = None }

after_init : after_event empty_app (first_result empty_app) (Text init) ≡ idle_for 1
unfolding serde_json_on_literals digits
after_init = refl

after_update : (i : ℕ) → after_event empty_app (idle_for i) (Text update) ≡ idle_for (suc i)
unfolding serde_json_on_literals digits
after_update i = refl

init_texts : texts_of_event empty_app (codes "s") (first_result empty_app) (Text init) ≡ config ∷ busy ∷ no_values ∷ idle ∷ []
unfolding serde_json_on_literals digits
init_texts = refl

update_texts : (i : ℕ) → texts_of_event empty_app (codes "s") (idle_for i) (Text update) ≡ []
unfolding serde_json_on_literals digits
update_texts i = refl

abbrev updates : ℕ → List Event
updates n = replicate n (Text update)

updates_end : (n i : ℕ) → (result_from empty_app (idle_for i) (updates n)).ending ≡ None
updates_end zero i = refl
updates_end (suc n) i = ap (λ (r : JournalResult). (result_from empty_app r (updates n)).ending) (after_update i) ∙ updates_end n (suc i)

updates_texts : (n i : ℕ) → answers_from empty_app (codes "s") (idle_for i) (updates n) ≡ []
updates_texts zero i = refl
updates_texts (suc n) i =
    ap (λ (texts : List (List ℕ)). texts ++ answers_from empty_app (codes "s") (after_event empty_app (idle_for i) (Text update)) (updates n)) (update_texts i)
    ∙ ap (λ (r : JournalResult). answers_from empty_app (codes "s") r (updates n)) (after_update i)
    ∙ updates_texts n (suc i)

updates_running : (n : ℕ) (r : JournalResult) → EachOfRunning empty_app r (updates n)
updates_running zero r = tt
updates_running (suc n) r = (tt, updates_running n (after_event empty_app r (Text update)))

updates_items : (n : ℕ) → client_items (updates n) ≡ replicate n (item.Text update)
updates_items zero = refl
updates_items (suc n) = ap (λ (items : List LinkItem). item.Text update ∷ items) (updates_items n)

updates_last : (n : ℕ) → EndsOnlyLast (updates n)
updates_last zero = tt
updates_last (suc n) = updates_last n

updates_no_end : (n : ℕ) → has_end (updates n) ≡ false
updates_no_end zero = refl
updates_no_end (suc n) = updates_no_end n

full_ending : (n : ℕ) → ending empty_app (Text init ∷ updates n) ≡ None
full_ending n = ap (λ (r : JournalResult). (result_from empty_app r (updates n)).ending) after_init ∙ updates_end n 1

full_answers : (n : ℕ) → answers empty_app (codes "s") (Text init ∷ updates n) ≡ config ∷ busy ∷ no_values ∷ idle ∷ []
full_answers n =
    ap (λ (texts : List (List ℕ)). texts ++ answers_from empty_app (codes "s") (after_event empty_app (first_result empty_app) (Text init)) (updates n)) init_texts
    ∙ ap (λ (r : JournalResult). config ∷ busy ∷ no_values ∷ idle ∷ answers_from empty_app (codes "s") r (updates n)) after_init
    ∙ ap (λ (texts : List (List ℕ)). config ∷ busy ∷ no_values ∷ idle ∷ texts) (updates_texts n 1)

enough : (n : ℕ) → EVENT_LIMIT ≤ n → nat_le EVENT_LIMIT n ≡ true
enough n many = grind (arith, nat_tests)

full_by_events : (journal : List Event) → EVENT_LIMIT ≤ length journal → is_full journal ≡ true
full_by_events journal many = ap (λ (b : Bool). b || nat_lt JOURNAL_TEXT_LIMIT (text_bytes journal)) (enough (length journal) many)

many_events : (n : ℕ) → EVENT_LIMIT ≤ suc n → EVENT_LIMIT ≤ length (Text init ∷ updates n)
many_events n many = omega (arith, length-replicate {A = Event})

pub journal_full_is_faithful : JournalFullIsFaithful
journal_full_is_faithful n many = record {
  running = (tt, updates_running n (after_event empty_app (first_result empty_app) (Text init)));
  last = updates_last n;
  ends = full_ending n;
  fault = λ e. cc;
  full = λ e. full_by_events (Text init ∷ updates n) (many_events n many);
  received = ap (λ (items : List LinkItem). item.Text init ∷ items) (updates_items n);
  sent = sym (full_answers n);
  ended = λ e. absurd (not_both e (updates_no_end n));
}

-- ---- journals that are not faithful

pub withheld_text : WithheldText
unfolding serde_json_on_literals digits
withheld_text f = let sent = f.sent in cc

pub unjournaled_item : UnjournaledItem
unjournaled_item f = let received = f.received in cc

pub uncounted_fault : UncountedFault
uncounted_fault f = let one = f.fault refl in omega arith

pub short_journal : ShortJournal
short_journal f = let full = f.full refl in cc

pub early_end : EarlyEnd
early_end f = not_both (ap (λ (script : Script). script.ended) (f.ended refl)) refl

pub end_of_another_invocation : EndOfAnotherInvocation
unfolding serde_json_on_literals digits
end_of_another_invocation f = let running = f.running.1.0 in cc

pub event_behind_the_end : EventBehindTheEnd
event_behind_the_end f = let last = f.last in cc

pub open_behind_the_end : OpenBehindTheEnd
unfolding serde_json_on_literals digits
open_behind_the_end f = let ends = f.ends in cc

pub failure_behind_a_refusal : FailureBehindARefusal
unfolding serde_json_on_literals digits
failure_behind_a_refusal h = let e : false ≡ true = h.ends in cc

pub failure_behind_the_end : FailureBehindTheEnd
unfolding serde_json_on_literals digits
failure_behind_the_end h = let e : false ≡ true = h.ends in cc
