-- The first place whose number waits holds the next number.
use Rattle.std.proofs.Common.{◌≡◌, ℕ, zero, suc, ℤ, ◌+◌, ◌<◌, ◌≤◌, Bool, true, false, not, ◌&&◌, ◌||◌, nat_lt, cond, List, [], ◌∷◌, length, Some, None, get_or, slice_index, slice_set, refl, sym, ◌∙◌, ap, subst, arith, ◌≢◌}
use Rattle.std.specs.Prelude.{int_lt, ◌==◌}
use Rattle.std.specs.Ordering.{is_eq}
use Rattle.std.specs.declared.cmp.Ordering.TheVariants.{Less, Equal, Greater}
use Rattle.std.specs.List.{find, list_any}
use Rattle.std.proofs.lemmas.Grind.{common_steps}
use Rattle.std.proofs.lemmas.Bool.Decides.{nat_tests}
use Rattle.pending_set.specs.Waiting.{Waiting, priority_of, comes_before, waits_at, IsNextWaiting, NoneWaits, true_places, waiting, next_waiting}
use Rattle.pending_set.specs.Ranking.{IsPrecedence, IsRank, IsShown}
use Rattle.pending_set.specs.Tree.{Row, is_set, IsFirstSet, NoneSet}

-- nothing waits in front of this place of the order
abbrev IsPassed : List ℕ → List Bool → ℕ → Type 0
IsPassed ranks waits place = (n : ℕ) → get_or waits n false ≡ true → place ≤ slice_index ranks n

inside : (waits : List Bool) (n : ℕ) → get_or waits n false ≡ true → n < length waits
inside [] n h = cc
inside (b ∷ bs) zero h = omega arith
inside (b ∷ bs) (suc n) h = let rest = inside bs n h in omega (arith, rest)

pub next-is : (w : Waiting) (order ranks : List ℕ) (place : ℕ) → IsPrecedence w.priorities order → IsRank order ranks → length w.waits ≡ length order → IsPassed ranks w.waits place → get_or w.waits (slice_index order place) false ≡ true → IsNextWaiting w (slice_index order place)
next-is w order ranks place precedence rank long passed waits = record {
  waits = waits;
  first = λ m waiting.
      let here : m < length order = omega (arith, long, inside w.waits m waiting) in
      subst (λ (n : ℕ). comes_before w.priorities n (slice_index order place) ≡ false) (rank.is m here)
      (precedence.falls place (slice_index ranks m) (passed m waiting) (rank.below m here));
}

-- a and b say which of two priorities is less, c and d which of two numbers
by_tests : (a b c d : Bool) → (a || (is_eq (cond b Less (cond a Greater Equal)) && c)) ≡ false → (b || (is_eq (cond a Less (cond b Greater Equal)) && d)) ≡ false → (c ≡ false) × (d ≡ false)
by_tests true b c d g h = cc
by_tests false true c d g h = cc
by_tests false false c d g h = (g, h)

same_from_neither : (priorities : List ℤ) (m n : ℕ) → comes_before priorities m n ≡ false → comes_before priorities n m ≡ false → m ≡ n
same_from_neither priorities m n g h =
    let p = priority_of priorities m in
    let q = priority_of priorities n in
    let neither : (nat_lt m n ≡ false) × (nat_lt n m ≡ false) = by_tests (int_lt q p) (int_lt p q) (nat_lt m n) (nat_lt n m) g h in
    grind (arith, nat_tests, neither)

list_any-none : (p : ℕ → Bool) (s : ℕ) (bs : List Bool) → ((j : ℕ) → get_or bs j false ≡ true → p (s + j) ≡ false) → list_any p (true_places s bs) ≡ false
list_any-none p s [] h = refl
list_any-none p s (true ∷ bs) h =
    let at : p s ≡ false = ap p (omega arith) ∙ h zero refl in
    let rest = list_any-none p (suc s) bs (λ j is. ap p (omega arith) ∙ h (suc j) is) in
    rw at rest
list_any-none p s (false ∷ bs) h = list_any-none p (suc s) bs (λ j is. ap p (omega arith) ∙ h (suc j) is)

list_any-some : (p : ℕ → Bool) (s : ℕ) (bs : List Bool) (k : ℕ) → get_or bs k false ≡ true → p (s + k) ≡ true → list_any p (true_places s bs) ≡ true
list_any-some p s [] k is h = cc
list_any-some p s (true ∷ bs) zero is h = let at : p s ≡ true = ap p (omega arith) ∙ h in rw at refl
list_any-some p s (true ∷ bs) (suc k) is h =
    let rest = list_any-some p (suc s) bs k is (ap p (omega arith) ∙ h) in
    grind (arith, rest)
list_any-some p s (false ∷ bs) zero is h = cc
list_any-some p s (false ∷ bs) (suc k) is h = list_any-some p (suc s) bs k is (ap p (omega arith) ∙ h)

not_here : (b : Bool) → (b ≡ true → b ≡ false) → b ≡ false
not_here true f = f refl
not_here false f = refl

find-only : (p : ℕ → Bool) (s : ℕ) (bs : List Bool) (k : ℕ) → get_or bs k false ≡ true → p (s + k) ≡ true → ((j : ℕ) → get_or bs j false ≡ true → p (s + j) ≡ true → j ≡ k) → find p (true_places s bs) ≡ Some (s + k)
find-only p s [] k is h only = cc
find-only p s (true ∷ bs) zero is h only = let at : p s ≡ true = ap p (omega arith) ∙ h in rw at (ap Some (omega arith))
find-only p s (true ∷ bs) (suc k) is h only =
    let rest = find-only p (suc s) bs k is (ap p (omega arith) ∙ h) (λ j here at. omega (arith, only (suc j) here (ap p (omega arith) ∙ at))) in
    let other : p s ≡ false = not_here (p s) (λ at. absurd (omega (arith, only zero refl (ap p (omega arith) ∙ at)))) in
    rw other (rest ∙ ap Some (omega arith))
find-only p s (false ∷ bs) zero is h only = cc
find-only p s (false ∷ bs) (suc k) is h only =
    find-only p (suc s) bs k is (ap p (omega arith) ∙ h) (λ j here at. omega (arith, only (suc j) here (ap p (omega arith) ∙ at))) ∙ ap Some (omega arith)

true_places-none : (s : ℕ) (bs : List Bool) → ((n : ℕ) → get_or bs n false ≡ false) → true_places s bs ≡ []
true_places-none s [] h = refl
true_places-none s (true ∷ bs) h = let at = h zero in cc
true_places-none s (false ∷ bs) h = true_places-none (suc s) bs (λ n. h (suc n))

pub next_waiting-none : (w : Waiting) → NoneWaits w → next_waiting w ≡ None
next_waiting-none w none = rw (true_places-none 0 w.waits none) refl

pub next_waiting-some : (w : Waiting) (n : ℕ) → IsNextWaiting w n → next_waiting w ≡ Some n
next_waiting-some w n h =
    let before : ℕ → ℕ → Bool = λ (m j : ℕ). comes_before w.priorities m j in
    let test : ℕ → Bool = λ (j : ℕ). not (list_any (λ m. before m j) (waiting w)) in
    let first : list_any (λ m. before m n) (waiting w) ≡ false = list_any-none (λ m. before m n) 0 w.waits (λ j is. ap (λ (m : ℕ). before m n) (omega arith) ∙ h.first j is) in
    let found : test (0 + n) ≡ true = ap test (omega arith) ∙ ap not first in
    let only : (j : ℕ) → get_or w.waits j false ≡ true → test (0 + j) ≡ true → j ≡ n = λ j here at.
    let alone : test j ≡ true = ap test (omega arith) ∙ at in
    let behind : before n j ≡ false = not_here (before n j) (λ is.
    let some : list_any (λ m. before m j) (waiting w) ≡ true = list_any-some (λ m. before m j) 0 w.waits n h.waits (ap (λ (m : ℕ). before m j) (omega arith) ∙ is) in
    let no : false ≡ true = sym (ap not some) ∙ alone in cc) in
    same_from_neither w.priorities j n (h.first j here) behind
    in
    find-only test 0 w.waits n h.waits found only ∙ ap Some (omega arith)

pub NoneWaits-passed : (w : Waiting) (order ranks : List ℕ) → IsRank order ranks → length w.waits ≡ length order → IsPassed ranks w.waits (length order) → NoneWaits w
NoneWaits-passed w order ranks rank long passed n =
    not_here (waits_at w n) (λ waiting.
    let here : n < length order = omega (arith, long, inside w.waits n waiting) in
    absurd (omega (arith, rank.below n here, passed n waiting)))

-- nothing waits in front of the first place that is set
pub IsPassed-first : (order ranks : List ℕ) (waits : List Bool) (row : Row) (place : ℕ) → IsShown order ranks waits row → IsFirstSet row place → IsPassed ranks waits place
IsPassed-first order ranks waits row place shown first n waiting = grind (arith, nat_tests, shown.each n waiting, first.passed (slice_index ranks n))

pub IsPassed-none : (order ranks : List ℕ) (waits : List Bool) (row : Row) → IsShown order ranks waits row → NoneSet row → IsPassed ranks waits (length order)
IsPassed-none order ranks waits row shown none n waiting = let set = shown.each n waiting in let not_set = none (slice_index ranks n) in cc

added-rank : (order ranks : List ℕ) (row after : Row) (n k : ℕ) → slice_index order (slice_index ranks n) ≡ n → (is_set row k ≡ true → slice_index ranks (slice_index order k) ≡ k)
    → (k ≢ slice_index ranks n → is_set after k ≡ is_set row k) → is_set after k ≡ true → (b : Bool) → (k == slice_index ranks n) ≡ b → slice_index ranks (slice_index order k) ≡ k
added-rank order ranks row after n k is shown others set true same =
    let place : k ≡ slice_index ranks n = grind (arith, nat_tests, same) in
    subst (λ (j : ℕ). slice_index ranks (slice_index order j) ≡ j) (sym place) (ap (slice_index ranks) is)
added-rank order ranks row after n k is shown others set false other =
    let apart : k ≢ slice_index ranks n = λ place. grind (arith, nat_tests, other, place) in
    shown (sym (others apart) ∙ set)

-- a number waits from now on, and its place is set
pub IsShown-added : (order ranks : List ℕ) (waits : List Bool) (row after : Row) (n : ℕ) → IsRank order ranks → length waits ≡ length order → n < length order → IsShown order ranks waits row
    → is_set after (slice_index ranks n) ≡ true → ((k : ℕ) → k ≢ slice_index ranks n → is_set after k ≡ is_set row k) → IsShown order ranks (slice_set waits n true) after
IsShown-added order ranks waits row after n rank long lt shown here others = record {
  each = λ m waiting. grind (arith, common_steps, nat_tests, waiting, shown.each m, here, others (slice_index ranks m));
  within = λ k set. grind (arith, common_steps, nat_tests, set, shown.within k, others k, rank.below n lt);
  stands = λ k set. grind (arith, common_steps, nat_tests, set, shown.stands k, others k, rank.is n lt);
  rank = λ k set. added-rank order ranks row after n k (rank.is n lt) (shown.rank k) (others k) set _ refl;
}

-- a number waits no longer, and its place is cleared
pub IsShown-dropped : (order ranks : List ℕ) (waits : List Bool) (row after : Row) (n : ℕ) → IsRank order ranks → length waits ≡ length order → n < length order → IsShown order ranks waits row
    → is_set after (slice_index ranks n) ≡ false → ((k : ℕ) → k ≢ slice_index ranks n → is_set after k ≡ is_set row k) → IsShown order ranks (slice_set waits n false) after
IsShown-dropped order ranks waits row after n rank long lt shown here others = record {
  each = λ m waiting. grind (arith, common_steps, nat_tests, waiting, shown.each m, here, others (slice_index ranks m), rank.is n lt);
  within = λ k set. grind (arith, common_steps, nat_tests, set, shown.within k, others k, here);
  stands = λ k set. grind (arith, common_steps, nat_tests, set, shown.stands k, shown.rank k, others k, here);
  rank = λ k set. grind (arith, common_steps, nat_tests, set, shown.rank k, others k, here);
}
