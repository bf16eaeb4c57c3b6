-- The reader that is next, by the set of those that wait and by the state.
use Rattle.std.proofs.Common.{◌≡◌, ◌≤◌, ◌<◌, ℕ, zero, suc, ℤ, pos, ◌+◌, Bool, true, false, cond, List, [], ◌∷◌, map, length, Option, Some, None, nat_lt, refl, sym, ap, ◌∙◌, subst, arith}
use Rattle.std.specs.Prelude.{not, ◌&&◌, ◌||◌, slice_get, slice_index_or, unwrap_or, option_map, int_lt}
use Rattle.std.specs.Ordering.{is_eq}
use Rattle.std.specs.declared.cmp.Ordering.TheVariants.{Less, Equal, Greater}
use Rattle.std.proofs.lemmas.Bool.{false≢true}
use Rattle.std.proofs.lemmas.Bool.Decides.{nat_tests}
use Rattle.std.proofs.lemmas.Int.{ints}
use Rattle.app_tree.specs.Tree.{Node, input, value, task, reactive, event, text, plot, observe, on, Shape}
use Rattle.app_tree.specs.Numbering.{readers, reader}
use Rattle.app_laws.proofs.KnownLists.{get_in}
use Rattle.pending_set.specs.Waiting.{Waiting, waits_at, comes_before, IsNextWaiting, NoneWaits}
use Rattle.pending_set.specs.Waiting as set
use Rattle.pending_set.proofs.Choice.{next_waiting-some}
use Rattle.session_model.specs.declared.state.ReaderState.{ReaderState}
use Rattle.session_model.specs.State.{SessionState, first_reader, reader_state, is_alive}
use Rattle.session_model.specs.Flush.{is_wanted, is_waiting, priority_of, Waiting as Choice, and_later, waiting_from, next_waiting}
use Rattle.session_model.specs.Standing.{KeptFlush, kept_output, is_bare, StandsWholly}
use Rattle.session_laws.proofs.Journeys.{some_is, moved_on, get_some}
use Rattle.session_laws.proofs.StandingLaws.{live_is}
use Rattle.session_steps.specs.Keeping.{lives}
use Rattle.session_steps.proofs.Dependences.{same_live}
use Rattle.flush_cycle.specs.Waits.{is_wanted_at, waits_in}
use Rattle.flush_cycle.specs.Working.{KnowsWaiting}

-- ---- who waits

wanted_shown : (i : Node) (r : ReaderState) → is_wanted i (record first_reader { shown = r.shown }) ≡ is_wanted i r
wanted_shown (input name start) r = refl
wanted_shown (value name start) r = refl
wanted_shown (task name parameters body) r = refl
wanted_shown (reactive name keys body) r = refl
wanted_shown (event name flags e body) r = refl
wanted_shown (text name shown) r = refl
wanted_shown (plot name shown) r = refl
wanted_shown (observe name priority block) r = refl
wanted_shown (on name priority flags e block) r = refl

-- nobody waits for an expression
bare_unwanted : (i : Node) (r : ReaderState) → is_bare (Some i) ≡ true → is_wanted i r ≡ false
bare_unwanted (input name start) r h = refl
bare_unwanted (value name start) r h = refl
bare_unwanted (task name parameters body) r h = refl
bare_unwanted (reactive name keys body) r h = refl
bare_unwanted (event name flags e body) r h = refl
bare_unwanted (text name shown) r h = absurd (false≢true h)
bare_unwanted (plot name shown) r h = absurd (false≢true h)
bare_unwanted (observe name priority block) r h = absurd (false≢true h)
bare_unwanted (on name priority flags e block) r h = absurd (false≢true h)

-- who waits is the same by what is kept and by the state
pub waits_alike : (app : Shape) (kept : KeptFlush) (state : SessionState) → StandsWholly app kept state
    → (n : ℕ) (i : Node) → reader app n ≡ Some i → waits_in app kept n ≡ is_waiting i (reader_state state n)
waits_alike app kept state stands n i is = by (is_bare (reader app n)) refl
  where
    r : ReaderState
    r = reader_state state n

    wanted : is_wanted_at (reader app n) (kept_output kept n).shown ≡ is_wanted i r
    wanted = ap (λ o. is_wanted_at o (kept_output kept n).shown) is ∙ ap (is_wanted_at (Some i)) (stands.shown n) ∙ wanted_shown i r

    by : (b : Bool) → is_bare (reader app n) ≡ b → waits_in app kept n ≡ is_waiting i r
    by true h =
        let never : is_wanted i r ≡ false = bare_unwanted i r (ap is_bare (sym is) ∙ h) in
        ap (λ w. w && not (lives kept.session n)) (wanted ∙ never) ∙ ap (λ w. w && not (is_alive r)) (sym never)
    by false h =
        let alive : lives kept.session n ≡ is_alive r = same_live _ _ (stands.session.dependences n h) ∙ live_is r in
        ap (λ w. w && not (lives kept.session n)) wanted ∙ ap (λ l. is_wanted i r && not l) alive

-- ---- priorities

below_none : (a : ℤ) → int_lt a a ≡ false
below_none a = by (int_lt a a) refl
  where
    by : (t : Bool) → int_lt a a ≡ t → t ≡ false
    by true e = absurd (omega (arith, ints))
    by false e = refl

not_both_ways : (a b : ℤ) → int_lt a b ≡ true → int_lt b a ≡ false
not_both_ways a b h = by (int_lt b a) refl
  where
    by : (t : Bool) → int_lt b a ≡ t → t ≡ false
    by true e = absurd (omega (arith, ints))
    by false e = refl

not_below : (a b c : ℤ) → int_lt a b ≡ false → int_lt b c ≡ false → int_lt a c ≡ false
not_below a b c g h = by (int_lt a c) refl
  where
    by : (t : Bool) → int_lt a c ≡ t → t ≡ false
    by true e = absurd (omega (arith, ints))
    by false e = refl

-- ---- the state's choice

abbrev NoneOf : List Node → List ReaderState → Type 0
NoneOf is rs = (k : ℕ) (j : Node) (r : ReaderState) → slice_get is k ≡ Some j → slice_get rs k ≡ Some r → is_waiting j r ≡ false

-- reader k waits no less than w does, and of equal priority stands no further in front
record IsBehind (w : Choice) (k : ℕ) (j : Node) : Type 0 where
  lower : int_lt w.priority (priority_of j) ≡ false
  later : int_lt (priority_of j) w.priority ≡ false → w.number ≤ k

record IsChosen (n : ℕ) (is : List Node) (rs : List ReaderState) (w : Choice) : Type 0 where
  place : ℕ
  node : Node
  kept : ReaderState
  number : w.number ≡ n + place
  here : slice_get is place ≡ Some node
  there : slice_get rs place ≡ Some kept
  waits : is_waiting node kept ≡ true
  priority : w.priority ≡ priority_of node
  first : (k : ℕ) (j : Node) (r : ReaderState) → slice_get is k ≡ Some j → slice_get rs k ≡ Some r → is_waiting j r ≡ true → IsBehind w (n + k) j

abbrev IsOf : ℕ → List Node → List ReaderState → Option Choice → Type 0
IsOf n is rs None = NoneOf is rs
IsOf n is rs (Some w) = IsChosen n is rs w

at_front : (n : ℕ) → n ≡ n + 0
at_front n = omega arith

-- the first of the readers doesn't wait
pass_none : (i : Node) (is : List Node) (r : ReaderState) (rs : List ReaderState) → is_waiting i r ≡ false → NoneOf is rs → NoneOf (i ∷ is) (r ∷ rs)
pass_none i is r rs h none zero j t p q = ap (λ z. is_waiting z t) (sym (some_is p)) ∙ ap (is_waiting i) (sym (some_is q)) ∙ h
pass_none i is r rs h none (suc k) j t p q = none k j t p q

pass_chosen : (n : ℕ) (i : Node) (is : List Node) (r : ReaderState) (rs : List ReaderState) (w : Choice) → is_waiting i r ≡ false → IsChosen (suc n) is rs w → IsChosen n (i ∷ is) (r ∷ rs) w
pass_chosen n i is r rs w h f = record {
  place = suc f.place;
  node = f.node;
  kept = f.kept;
  number = f.number ∙ moved_on n f.place;
  here = f.here;
  there = f.there;
  waits = f.waits;
  priority = f.priority;
  first = at;
}
  where
    at : (k : ℕ) (j : Node) (t : ReaderState) → slice_get (i ∷ is) k ≡ Some j → slice_get (r ∷ rs) k ≡ Some t → is_waiting j t ≡ true → IsBehind w (n + k) j
    at zero j t p q waits = absurd (false≢true (sym h ∙ ap (is_waiting i) (some_is q) ∙ ap (λ z. is_waiting z t) (some_is p) ∙ waits))
    at (suc k) j t p q waits = subst (λ z. IsBehind w z j) (moved_on n k) (f.first k j t p q waits)

-- the first of the readers is chosen
take_first : (n : ℕ) (i : Node) (is : List Node) (r : ReaderState) (rs : List ReaderState) → is_waiting i r ≡ true
    → ((k : ℕ) (j : Node) (t : ReaderState) → slice_get is k ≡ Some j → slice_get rs k ≡ Some t → is_waiting j t ≡ true → int_lt (priority_of i) (priority_of j) ≡ false)
    → IsChosen n (i ∷ is) (r ∷ rs) (record { number = n; priority = priority_of i })
take_first n i is r rs h lower = record {
  place = 0;
  node = i;
  kept = r;
  number = at_front n;
  here = refl;
  there = refl;
  waits = h;
  priority = refl;
  first = at;
}
  where
    w : Choice
    w = record { number = n; priority = priority_of i }

    at : (k : ℕ) (j : Node) (t : ReaderState) → slice_get (i ∷ is) k ≡ Some j → slice_get (r ∷ rs) k ≡ Some t → is_waiting j t ≡ true → IsBehind w (n + k) j
    at zero j t p q waits = subst (λ z. IsBehind w (n + 0) z) (some_is p) (record { lower = below_none (priority_of i); later = λ e. omega arith })
    at (suc k) j t p q waits = record { lower = lower k j t p q waits; later = λ e. omega arith }

-- one behind the first is chosen, of higher priority
pass_waiting : (n : ℕ) (i : Node) (is : List Node) (r : ReaderState) (rs : List ReaderState) (w : Choice) → int_lt (priority_of i) w.priority ≡ true → IsChosen (suc n) is rs w → IsChosen n (i ∷ is) (r ∷ rs) w
pass_waiting n i is r rs w h f = record {
  place = suc f.place;
  node = f.node;
  kept = f.kept;
  number = f.number ∙ moved_on n f.place;
  here = f.here;
  there = f.there;
  waits = f.waits;
  priority = f.priority;
  first = at;
}
  where
    at : (k : ℕ) (j : Node) (t : ReaderState) → slice_get (i ∷ is) k ≡ Some j → slice_get (r ∷ rs) k ≡ Some t → is_waiting j t ≡ true → IsBehind w (n + k) j
    at zero j t p q waits =
        subst (λ z. IsBehind w (n + 0) z) (some_is p)
        (record { lower = not_both_ways (priority_of i) w.priority h; later = λ e. absurd (false≢true (sym e ∙ h)) })
    at (suc k) j t p q waits = subst (λ z. IsBehind w z j) (moved_on n k) (f.first k j t p q waits)

choose_of : (n : ℕ) (i : Node) (is : List Node) (r : ReaderState) (rs : List ReaderState) (b : Bool) → is_waiting i r ≡ b
    → (later : Option Choice) → IsOf (suc n) is rs later
    → IsOf n (i ∷ is) (r ∷ rs) (and_later b (record { number = n; priority = priority_of i }) later)
choose_of n i is r rs false h None none = pass_none i is r rs h none
choose_of n i is r rs false h (Some w) f = pass_chosen n i is r rs w h f
choose_of n i is r rs true h None none = take_first n i is r rs h (λ k j t p q waits. absurd (false≢true (sym (none k j t p q) ∙ waits)))
choose_of n i is r rs true h (Some w) f = by (int_lt (priority_of i) w.priority) refl
  where
    by : (t : Bool) → int_lt (priority_of i) w.priority ≡ t → IsOf n (i ∷ is) (r ∷ rs) (Some (cond t w (record { number = n; priority = priority_of i })))
    by true e = pass_waiting n i is r rs w e f
    by false e = take_first n i is r rs h (λ k j t p q waits. not_below (priority_of i) w.priority (priority_of j) e (f.first k j t p q waits).lower)

is_of : (n : ℕ) (is : List Node) (rs : List ReaderState) → IsOf n is rs (waiting_from n is rs)
is_of n [] rs = λ k j r p q. cc
is_of n (i ∷ is) [] = λ k j r p q. cc
is_of n (i ∷ is) (r ∷ rs) = choose_of n i is r rs (is_waiting i r) refl (waiting_from (suc n) is rs) (is_of (suc n) is rs)

-- ---- the set's choice

-- a number that waits is one of them
pub inside : (waits : List Bool) (n : ℕ) → slice_index_or waits n false ≡ true → n < length waits
inside [] n h = cc
inside (b ∷ bs) zero h = omega arith
inside (b ∷ bs) (suc n) h = let rest = inside bs n h in omega (arith, rest)

mapped_at : {A B : Type 0} (f : A → B) (d : B) (xs : List A) (n : ℕ) (x : A) → slice_get xs n ≡ Some x → slice_index_or (map f xs) n d ≡ f x
mapped_at f d [] n x h = cc
mapped_at f d (y ∷ ys) zero x h = ap f (some_is h)
mapped_at f d (y ∷ ys) (suc n) x h = mapped_at f d ys n x h

-- a is whether one priority is less than the other, b the other way round, and d what is said of the numbers
by_tests : (a b d : Bool) → a ≡ false → (b ≡ false → d ≡ false) → (a || (is_eq (cond b Less (cond a Greater Equal)) && d)) ≡ false
by_tests true b d g h = cc
by_tests false true d g h = refl
by_tests false false d g h = h refl

not_less : (m n : ℕ) → n ≤ m → nat_lt m n ≡ false
not_less m n h = grind (arith, nat_tests, h)

module _ (app : Shape) (kept : KeptFlush) (state : SessionState) (stands : StandsWholly app kept state) (pending : Waiting)
    (waits : length pending.waits ≡ length (readers app)) (knows : KnowsWaiting app kept pending) where
  record IsKnown (n : ℕ) : Type 0 where
    node : Node
    held : ReaderState
    here : slice_get (readers app) n ≡ Some node
    there : slice_get state.readers n ≡ Some held
    same : waits_at pending n ≡ is_waiting node held

  known : (n : ℕ) → n < length (readers app) → IsKnown n
  known n within =
      let size = stands.session.consistent.size in
      let node = get_some (readers app) n within in
      let held = get_some state.readers n (omega (within, size, arith)) in
      record {
        node = node.0;
        held = held.0;
        here = node.1;
        there = held.1;
        same = knows n within ∙ waits_alike app kept state stands n node.0 node.1 ∙ ap (λ o. is_waiting node.0 (unwrap_or o first_reader)) held.1;
      }

  within : (n : ℕ) → waits_at pending n ≡ true → n < length (readers app)
  within n h = let inner = inside pending.waits n h in omega (inner, waits, arith)

  chosen_at : (w : Choice) (f : IsChosen 0 (readers app) state.readers w) → w.number ≡ f.place
  chosen_at w f = let number = f.number in omega (number, arith)

  chosen_waits : (w : Choice) → IsChosen 0 (readers app) state.readers w → waits_at pending w.number ≡ true
  chosen_waits w f =
      let k = known f.place (get_in (readers app) f.place f.node f.here) in
      ap (waits_at pending) (chosen_at w f) ∙ k.same ∙ ap (λ z. is_waiting z k.held) (some_is (sym k.here ∙ f.here))
      ∙ ap (is_waiting f.node) (some_is (sym k.there ∙ f.there)) ∙ f.waits

  chosen_is : (w : Choice) → IsChosen 0 (readers app) state.readers w → pending.priorities ≡ map priority_of (readers app) → IsNextWaiting pending w.number
  chosen_is w f priorities = record { waits = chosen_waits w f; first = first_there }
    where
      priority_at : (m : ℕ) (node : Node) → slice_get (readers app) m ≡ Some node → set.priority_of pending.priorities m ≡ priority_of node
      priority_at m node here = ap (λ ps. set.priority_of ps m) priorities ∙ mapped_at priority_of (pos 0) (readers app) m node here

      its : set.priority_of pending.priorities w.number ≡ w.priority
      its = ap (set.priority_of pending.priorities) (chosen_at w f) ∙ priority_at f.place f.node f.here ∙ sym f.priority

      first_there : (m : ℕ) → waits_at pending m ≡ true → comes_before pending.priorities m w.number ≡ false
      first_there m h =
          let k = known m (within m h) in
          let behind = f.first m k.node k.held k.here k.there (sym k.same ∙ h) in
          let p : ℤ = set.priority_of pending.priorities m in
          let q : ℤ = set.priority_of pending.priorities w.number in
          let other : p ≡ priority_of k.node = priority_at m k.node k.here in
          by_tests (int_lt q p) (int_lt p q) (nat_lt m w.number)
          (ap (λ z. int_lt z p) its ∙ ap (int_lt w.priority) other ∙ behind.lower)
          (λ e. not_less m w.number (let later = behind.later (ap (λ z. int_lt z w.priority) (sym other) ∙ ap (int_lt p) (sym its) ∙ e) in omega (later, arith)))

  next_by : pending.priorities ≡ map priority_of (readers app) → (n : ℕ) → IsNextWaiting pending n → (o : Option Choice) → IsOf 0 (readers app) state.readers o
      → option_map (λ w. w.number) o ≡ Some n
  next_by priorities n next None none =
      let k = known n (within n next.waits) in
      absurd (false≢true (sym (none n k.node k.held k.here k.there) ∙ sym k.same ∙ next.waits))
  next_by priorities n next (Some w) f = sym (next_waiting-some pending w.number (chosen_is w f priorities)) ∙ next_waiting-some pending n next

  none_by : NoneWaits pending → (o : Option Choice) → IsOf 0 (readers app) state.readers o → option_map (λ w. w.number) o ≡ None
  none_by none None f = refl
  none_by none (Some w) f = absurd (false≢true (sym (none w.number) ∙ chosen_waits w f))

-- the set's choice is the state's
pub next_alike : (app : Shape) (kept : KeptFlush) (state : SessionState) → StandsWholly app kept state → (pending : Waiting)
    → pending.priorities ≡ map priority_of (readers app) → length pending.waits ≡ length (readers app)
    → KnowsWaiting app kept pending → (n : ℕ) → IsNextWaiting pending n → next_waiting app state ≡ Some n
next_alike app kept state stands pending priorities waits knows n next =
    next_by app kept state stands pending waits knows priorities n next (waiting_from 0 (readers app) state.readers) (is_of 0 (readers app) state.readers)

pub none_alike : (app : Shape) (kept : KeptFlush) (state : SessionState) → StandsWholly app kept state → (pending : Waiting)
    → length pending.waits ≡ length (readers app) → KnowsWaiting app kept pending → NoneWaits pending
    → next_waiting app state ≡ None
none_alike app kept state stands pending waits knows none =
    none_by app kept state stands pending waits knows none (waiting_from 0 (readers app) state.readers) (is_of 0 (readers app) state.readers)
