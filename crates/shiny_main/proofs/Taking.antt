-- A client message of a transcript's line, from the code's answer to the definition's replay.
use Rattle.std.proofs.Common.{◌≡◌, ℕ, suc, ◌+◌, ◌*◌, ◌≤◌, Bool, true, false, not, ◌&&◌, List, [], ◌∷◌, ◌++◌, length, Option, Some, None, Result, Ok, Err, IfOk, refl, sym, ap, ◌∙◌, subst, arith, inl, inr}
use Rattle.std.specs.Prelude.{nat_le, nat_lt, ◌||◌, nat_eq, bytes_eq, is_some, if◌then◌else◌}
use Rattle.std.proofs.lemmas.Bool.{le-ltb}
use Rattle.std.proofs.lemmas.Bool.Decides.{nat_tests, leb_tells}
use Rattle.app_tree.specs.Tree.{Shape}
use Rattle.shiny_json.specs.declared.limits.TheConstants.{MESSAGE_LIMIT}
use Rattle.shiny_json.specs.declared.message.Pair.{Pair}
use Rattle.session_model.specs.declared.event.Event.{Event}
use Rattle.session_model.specs.declared.event.Event.TheVariants as event
use Rattle.session_model.specs.declared.event.Event.TheVariants.{Text}
use Rattle.session_model.specs.Alone.{Ending, budget_spent, ending, journal_result}
use Rattle.session_model.specs.Transcript.{Line, recv, ends_of, Open, new_session, with_event, event_output, is_over, ReplayResult, Rest, after_output, replay_after_step, step_by, open_or_new, taken_by_open, replay_after_line, replay_line}
use Rattle.session_model.specs.Journal.{text_bytes, is_full}
use Rattle.session_model.specs.TakenLines.{is_first, is_of_one, is_taken, taken_pairs, taken_line}
use Rattle.session_laws.proofs.TakenReplay.{taken_init, taken_update, taken_short}
use Rattle.taken_cycle.specs.declared.stage.Stage.{Stage}
use Rattle.taken_cycle.specs.declared.stage.Stage.TheVariants as stage
use Rattle.shiny_main.specs.declared.replay.Taken.{Taken}
use Rattle.shiny_main.specs.declared.replay.Taken.TheVariants as code
use Rattle.shiny_main.specs.declared.session.OpenSession.{OpenSession}
use Rattle.shiny_main.specs.declared.session.Answered.{Answered}
use Rattle.shiny_main.specs.inner.Replaying.{EndsSo, HoldsOpen, IsShort, AnswersFirst, AnswersLater, Updates, TakesLine, GoesOn}
use Rattle.session_model.specs.declared.limits.TheConstants.{TAKEN_LINE_LIMIT, EVENT_LIMIT, JOURNAL_TEXT_LIMIT}

-- ---- how full a journal is

length-more : (journal : List Event) (ev : Event) → length (journal ++ ev ∷ []) ≡ suc (length journal)
length-more [] ev = refl
length-more (e ∷ journal) ev = ap suc (length-more journal ev)

bytes-more : (journal : List Event) (t : List ℕ) → text_bytes (journal ++ Text t ∷ []) ≡ text_bytes journal + length t
bytes-more [] t = omega arith
bytes-more (event.Text u ∷ journal) t = let h = bytes-more journal t in omega (h, arith)
bytes-more (event.Other ∷ journal) t = bytes-more journal t
bytes-more (event.TaskEnd n m ∷ journal) t = bytes-more journal t
bytes-more (event.End ∷ journal) t = bytes-more journal t

-- no journal of so few messages is full
pub not_full : (k : ℕ) (s : Open) → IsShort k s → is_full s.journal ≡ false
not_full k s h =
    let few = h.few in let within = h.within in let short = h.short in
    let many : nat_le EVENT_LIMIT (length s.journal) ≡ false = elim (leb_tells EVENT_LIMIT (length s.journal)) [ inl p ↦ absurd (omega (p.1, few, within, arith)) | inr p ↦ p.0 ] in
    let long : nat_lt JOURNAL_TEXT_LIMIT (text_bytes s.journal) ≡ false = le-ltb JOURNAL_TEXT_LIMIT (text_bytes s.journal) (omega (few, within, short, arith)) in
    ap (λ b. b || nat_lt JOURNAL_TEXT_LIMIT (text_bytes s.journal)) many ∙ long

short_after : (k : ℕ) (s : Open) (text : List ℕ) → k ≤ TAKEN_LINE_LIMIT → length s.journal ≤ k → text_bytes s.journal ≤ MESSAGE_LIMIT * length s.journal → length text ≤ MESSAGE_LIMIT
    → IsShort (suc k) (with_event (Text text) s)
short_after k s text within few short h = record {
  few = let one = length-more s.journal (Text text) in omega (few, one, arith);
  within = omega (within, arith);
  short = let one = length-more s.journal (Text text) in let bytes = bytes-more s.journal text in omega (short, one, bytes, h, arith);
}

-- ---- a line that is taken

fits_limit : (k : ℕ) → k ≤ TAKEN_LINE_LIMIT → nat_le k TAKEN_LINE_LIMIT ≡ true
fits_limit k h = grind (arith, nat_tests)

pub same_bytes : (xs : List ℕ) → bytes_eq xs xs ≡ true
same_bytes [] = refl
same_bytes (x ∷ xs) = let one : nat_eq x x ≡ true = grind (arith, nat_tests) in ap (λ b. b && bytes_eq xs xs) one ∙ same_bytes xs

module _ (app : Shape) (k : ℕ) (sessions : List Open) (label text : List ℕ) where
  abbrev said : Option Line
  said = taken_line app k sessions (Some (recv label text))

  taken_is : (pairs : List Pair) → k ≤ TAKEN_LINE_LIMIT → is_of_one label sessions ≡ true → taken_pairs app (is_first sessions) text ≡ Some pairs → is_taken app k sessions label text ≡ true
  taken_is pairs within one taken =
      ap (λ b. b && is_of_one label sessions && is_some (taken_pairs app (is_first sessions) text)) (fits_limit k within)
      ∙ ap (λ b. b && is_some (taken_pairs app (is_first sessions) text)) one ∙ ap is_some taken

  said_is : (pairs : List Pair) → k ≤ TAKEN_LINE_LIMIT → is_of_one label sessions ≡ true → taken_pairs app (is_first sessions) text ≡ Some pairs → said ≡ Some (recv label text)
  said_is pairs within one taken = ap (λ b. if b then Some (recv label text) else None) (taken_is pairs within one taken)

pub first_goes : (app : Shape) (k : ℕ) (label text : List ℕ) (pairs : List Pair) (answered : Answered) → k ≤ TAKEN_LINE_LIMIT → taken_pairs app true text ≡ Some pairs → AnswersFirst app label pairs answered
    → GoesOn app k [] (taken_line app k [] (Some (recv label text))) answered
first_goes app k label text pairs answered within form answers =
    let s : Open = new_session label in
    let answer = answers text (taken_init app text pairs form) in
    let after = with_event (Text text) s in
    record {
      within = within;
      after = after;
      holds = answer.holds;
      short = short_after k s text within (omega arith) (omega arith) (taken_short app true text pairs form);
      is = λ next. ap (λ o. replay_line app k [] o next) (said_is app k [] label text pairs within refl form) ∙ ap (λ o. after_output o (next (after ∷ []))) (sym answer.output);
    }

-- a session of its own name is the one that is open
module _ (app : Shape) (k : ℕ) (s : Open) (label text : List ℕ) (pairs : List Pair) (within : k ≤ TAKEN_LINE_LIMIT) (same : label ≡ s.label) (form : taken_pairs app false text ≡ Some pairs) where
  its_name : bytes_eq label s.label ≡ true
  its_name = ap (λ l. bytes_eq l s.label) same ∙ same_bytes s.label

  its_line : taken_line app k (s ∷ []) (Some (recv label text)) ≡ Some (recv label text)
  its_line = said_is app k (s ∷ []) label text pairs within (ap (λ b. b && true) its_name) form

  -- what becomes of the line by whether the session is over
  abbrev taken_if : Bool → Rest → ReplayResult
  taken_if over next = replay_after_line app (s ∷ []) (taken_by_open k (Text text) (if over then None else Some s)) next

  its_session : (next : Rest) → replay_line app k (s ∷ []) (taken_line app k (s ∷ []) (Some (recv label text))) next ≡ taken_if (is_over app s) next
  its_session next =
      ap (λ o. replay_line app k (s ∷ []) o next) its_line
      ∙ ap (λ b. replay_after_line app (s ∷ []) (taken_by_open k (Text text) (open_or_new app label (s ∷ []) (if b then Some s else None))) next) its_name

  pub later_goes : (session : OpenSession) (answered : Answered) → HoldsOpen app s session → IsShort k s → session.flusher.stage ≡ stage.Open → AnswersLater session pairs answered
      → GoesOn app k (s ∷ []) (taken_line app k (s ∷ []) (Some (recv label text))) answered
  later_goes session answered holds short at answers =
      let answer = answers app s text holds at (taken_update app text pairs form) in
      let after = with_event (Text text) s in
      let none : ending app s.journal ≡ None = subst (λ b. EndsSo b (journal_result app s.journal).ending) at holds.ending in
      let open_ : is_over app s ≡ false = ap (λ b. b || is_some (ending app s.journal)) holds.goes_on ∙ ap is_some none in
      record {
        within = within;
        after = after;
        holds = answer.holds;
        short = short_after k s text within short.few short.short (taken_short app false text pairs form);
        is = λ next. its_session next ∙ ap (λ b. taken_if b next) open_
            ∙ ap (λ b. replay_after_step (s ∷ []) (step_by b app (Text text) s) next) (not_full k s short)
            ∙ ap (λ b. after_output (event_output app (Text text) s) (next (if b then after ∷ [] else s ∷ after ∷ []))) (same_bytes s.label)
            ∙ ap (λ o. after_output o (next (after ∷ []))) (sym answer.output);
      }

  pub later_over : (end : Ending) → ending app s.journal ≡ Some end → s.full ≡ false → TakesLine app k (s ∷ []) (taken_line app k (s ∷ []) (Some (recv label text))) code.NoSession
  later_over end e full =
      let over : is_over app s ≡ true = ap (λ b. b || is_some (ending app s.journal)) full ∙ ap is_some e in
      λ next. its_session next ∙ ap (λ b. taken_if b next) over

over_is : (at : Stage) (end : Option Ending) → EndsSo at end → (at ≡ stage.Open → ⊥) → end ≡ Some budget_spent
over_is stage.New end e h = absurd e
over_is stage.Open end e h = absurd (h refl)
over_is stage.Over end e h = e

pub later_takes : (app : Shape) (k : ℕ) (s : Open) (session : OpenSession) (label text : List ℕ) (pairs : List Pair) (t : Taken) → k ≤ TAKEN_LINE_LIMIT → label ≡ s.label → taken_pairs app false text ≡ Some pairs
    → HoldsOpen app s session → IsShort k s → Updates session pairs t → TakesLine app k (s ∷ []) (taken_line app k (s ∷ []) (Some (recv label text))) t
later_takes app k s session label text pairs (code.Answered answered) within same form holds short u = later_goes app k s label text pairs within same form session answered holds short u.0 u.1
later_takes app k s session label text pairs code.Bad within same form holds short u = absurd u
later_takes app k s session label text pairs code.NoSession within same form holds short u =
    later_over app k s label text pairs within same form budget_spent (over_is session.flusher.stage (ending app s.journal) holds.ending u) holds.goes_on

-- an end or a close is not taken today
pub no_end_taken : (app : Shape) (k : ℕ) (sessions : List Open) (label : List ℕ) (task : Option ℕ) → taken_line app k sessions (ends_of label task) ≡ None
no_end_taken app k sessions label None = refl
no_end_taken app k sessions label (Some t) = refl

pub if_ok : {A E : Type 0} (P Q : A → Type 0) (r : Result A E) → ((a : A) → P a → Q a) → IfOk r P → IfOk r Q
if_ok P Q (Ok a) h p = h a p
if_ok P Q (Err e) h p = tt

bytes_same : (xs ys : List ℕ) → bytes_eq xs ys ≡ true → xs ≡ ys
bytes_same [] [] e = refl
bytes_same [] (y ∷ ys) e = cc
bytes_same (x ∷ xs) [] e = cc
bytes_same (x ∷ xs) (y ∷ ys) e =
    let one : x ≡ y = grind (arith, nat_tests, e) in
    let rest : bytes_eq xs ys ≡ true = grind (arith, nat_tests, e) in
    ap (λ z. z ∷ xs) one ∙ ap (λ l. y ∷ l) (bytes_same xs ys rest)

not_not : (b : Bool) → false ≡ not b → b ≡ true
not_not true e = refl
not_not false e = cc

pub label_is : (label held : List ℕ) (differs : Bool) → differs ≡ not (bytes_eq label held) → differs ≡ false → label ≡ held
label_is label held differs e f = bytes_same label held (not_not (bytes_eq label held) (sym f ∙ e))
