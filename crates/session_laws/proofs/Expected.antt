-- What is expected of a session.
use Rattle.std.proofs.Common.{◌≡◌, ℕ, zero, suc, ◌≤◌, Bool, true, false, List, [], ◌∷◌, ◌++◌, length, Option, Some, None, refl, sym, ap, ◌∙◌, arith, append_assoc}
use Rattle.std.specs.Prelude.{slice_get, option_map, if◌then◌else◌}
use Rattle.rx_value.specs.Value.{source_eq}
use Rattle.rx_value.proofs.SameSources.{source_eq-itself}
use Rattle.app_tree.specs.Tree.{Node, Shape}
use Rattle.app_tree.specs.Numbering.{readers}
use Rattle.app_tree.specs.Current.{value_at}
use Rattle.session_model.specs.declared.event.Event.{Event}
use Rattle.session_model.specs.declared.state.ReaderState.{ReaderState}
use Rattle.session_model.specs.State.{SessionState}
use Rattle.session_model.specs.Change.{with_source_value}
use Rattle.session_model.specs.Flush.{Waiting, and_later, is_waiting, priority_of, waiting_from, next_waiting, RunResult, make_run, done, FlushResult, failure_of, go_on_unless_failed, flush_step, end_without_budget, flush_within, flush}
use Rattle.session_model.specs.Alone.{Ending, JournalResult, first_result, effect_from, result_after, items_after, after_event, effect_texts, texts_of_event, result_from, answers_from}
use Rattle.session_laws.specs.Laws.{EqualValueChangesNothing, IsSettled, DoneIsSettled, IsWithinBudget, AnswersGoOn, OverStays, OverIsSilent}

-- ---- a change

kept_where : {A : Type 0} (b : Bool) (x y : A) → b ≡ true → (if b then x else y) ≡ x
kept_where true x y h = refl
kept_where false x y h = cc

pub equal_value_changes_nothing : EqualValueChangesNothing
equal_value_changes_nothing state s x h =
    kept_where (source_eq (value_at state.values s) x) state (with_source_value s x state) (ap (λ v. source_eq v x) h ∙ source_eq-itself x)

-- ---- the flush

no_later : (b : Bool) (w : Waiting) (later : Option Waiting) → and_later b w later ≡ None → (b ≡ false) × (later ≡ None)
no_later true w later h = cc
no_later false w later h = (refl, h)

none_waits : (n : ℕ) (is : List Node) (rs : List ReaderState) (k : ℕ) (i : Node) (r : ReaderState)
    → waiting_from n is rs ≡ None → slice_get is k ≡ Some i → slice_get rs k ≡ Some r → is_waiting i r ≡ false
none_waits n [] rs k i r h p q = cc
none_waits n (j ∷ is) [] k i r h p q = cc
none_waits n (j ∷ is) (t ∷ rs) zero i r h p q =
    let same : j ≡ i = cc in let so : t ≡ r = cc in
    ap (λ z. is_waiting z r) (sym same) ∙ ap (is_waiting j) (sym so) ∙ (no_later (is_waiting j t) (record { number = n; priority = priority_of j }) (waiting_from (suc n) is rs) h).0
none_waits n (j ∷ is) (t ∷ rs) (suc k) i r h p q =
    none_waits (suc n) is rs k i r (no_later (is_waiting j t) (record { number = n; priority = priority_of j }) (waiting_from (suc n) is rs) h).1 p q

unmapped : {A B : Type 0} (f : A → B) (o : Option A) → option_map f o ≡ None → o ≡ None
unmapped f None h = refl
unmapped f (Some x) h = cc

pub settled : (app : Shape) (state : SessionState) → next_waiting app state ≡ None → IsSettled app state
settled app state h n i r p q = none_waits 0 (readers app) state.readers n i r (unmapped (λ w. w.number) (waiting_from 0 (readers app) state.readers) h) p q

ends_done : (o : Option ℕ) → end_without_budget o ≡ done → o ≡ None
ends_done None h = refl
ends_done (Some n) h = cc

module _ (app : Shape) where
  -- what is known of a flush with so many runs left
  pub record Rests (left : ℕ) (flushed : FlushResult) : Type 0 where
    pub settled : flushed.end ≡ done → next_waiting app flushed.state ≡ None
    pub few : length flushed.runs ≤ left

  abbrev RestsAlways : ℕ → (SessionState → FlushResult) → Type 0
  RestsAlways left go_on = (state : SessionState) → Rests left (go_on state)

  rests_failure : (left : ℕ) (go_on : SessionState → FlushResult) → RestsAlways left go_on → (why : Option (List ℕ)) → RestsAlways left (go_on_unless_failed why go_on)
  rests_failure left go_on h None state = h state
  rests_failure left go_on h (Some why) state = record { settled = λ e. absurd cc; few = omega arith }

  rests_step : (left : ℕ) (go_on : SessionState → FlushResult) → RestsAlways left go_on → (o : Option ℕ) (state : SessionState) → next_waiting app state ≡ o → Rests (suc left) (flush_step app go_on state o)
  rests_step left go_on h None state p = record { settled = λ e. p; few = omega arith }
  rests_step left go_on h (Some n) state p =
      let first : RunResult = make_run app n state in
      let rest : Rests left (go_on_unless_failed (failure_of app first.run) go_on first.state) = rests_failure left go_on h (failure_of app first.run) first.state in
      let few = rest.few in
      record { settled = rest.settled; few = omega (few, arith) }

  rests : (left : ℕ) → RestsAlways left (flush_within app left)
  rests zero state = record { settled = ends_done (next_waiting app state); few = omega arith }
  rests (suc left) state = rests_step left (flush_within app left) (rests left) (next_waiting app state) state refl

pub nobody_waits : (app : Shape) (state : SessionState) → (flush app state).end ≡ done → next_waiting app (flush app state).state ≡ None
nobody_waits app state e = (rests app app.budget state).settled e

pub done_is_settled : DoneIsSettled
done_is_settled app state e = settled app (flush app state).state (nobody_waits app state e)

pub is_within_budget : IsWithinBudget
is_within_budget app state = (rests app app.budget state).few

-- ---- a journal

pub result_from-append : (app : Shape) (so_far : JournalResult) (front back : List Event) → result_from app so_far (front ++ back) ≡ result_from app (result_from app so_far front) back
result_from-append app so_far [] back = refl
result_from-append app so_far (event ∷ front) back = result_from-append app (after_event app so_far event) front back

pub answers_from-append : (app : Shape) (label : List ℕ) (so_far : JournalResult) (front back : List Event)
    → answers_from app label so_far (front ++ back) ≡ answers_from app label so_far front ++ answers_from app label (result_from app so_far front) back
answers_from-append app label so_far [] back = refl
answers_from-append app label so_far (event ∷ front) back =
    let now = texts_of_event app label so_far event in
    let next = after_event app so_far event in
    ap (λ l. now ++ l) (answers_from-append app label next front back) ∙ sym (append_assoc now (answers_from app label next front) (answers_from app label (result_from app next front) back))

pub answers_go_on : AnswersGoOn
answers_go_on app label front back = answers_from-append app label (first_result app) front back

nothing_after : (app : Shape) (so_far : JournalResult) (end : Ending) (event : Event) → so_far.ending ≡ Some end → after_event app so_far event ≡ so_far
nothing_after app so_far end event h = ap (λ e. result_after so_far (items_after event so_far.items) (effect_from app so_far e event)) h

nothing_sent : (app : Shape) (label : List ℕ) (so_far : JournalResult) (end : Ending) (event : Event) → so_far.ending ≡ Some end → texts_of_event app label so_far event ≡ []
nothing_sent app label so_far end event h = ap (λ e. effect_texts app label (effect_from app so_far e event)) h

pub over_stays : OverStays
over_stays app so_far end [] h = refl
over_stays app so_far end (event ∷ journal) h =
    ap (λ c. result_from app c journal) (nothing_after app so_far end event h) ∙ over_stays app so_far end journal h

pub over_is_silent : OverIsSilent
over_is_silent app label so_far end [] h = refl
over_is_silent app label so_far end (event ∷ journal) h =
    ap (λ l. l ++ answers_from app label (after_event app so_far event) journal) (nothing_sent app label so_far end event h)
    ∙ ap (λ c. answers_from app label c journal) (nothing_after app so_far end event h) ∙ over_is_silent app label so_far end journal h
