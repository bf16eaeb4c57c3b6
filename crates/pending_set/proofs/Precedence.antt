-- Sorted entries are numbers in precedence.
use Rattle.std.proofs.Common.{◌≡◌, ℕ, ℤ, ◌+◌, ◌<◌, ◌≤◌, Bool, true, false, ◌&&◌, ◌||◌, nat_lt, cond, List, [], ◌∷◌, ◌++◌, length, map, slice_index, get_or, pos, refl, sym, ◌∙◌, ap, subst, arith}
use Rattle.std.specs.Prelude.{int_lt, ◌==◌}
use Rattle.std.specs.Ordering.{nat_cmp, int_cmp, int_eq, is_lt, is_eq, ordering_then}
use Rattle.std.specs.declared.cmp.Ordering.{Ordering}
use Rattle.std.specs.declared.cmp.Ordering.TheVariants.{Less, Equal, Greater}
use Rattle.std.specs.declared.cmp.Reverse.{Reverse}
use Rattle.std.specs.Cmp.{IsTotalOrder}
use Rattle.std.specs.List.{All, Contains}
use Rattle.std.specs.List.Sorted.{IsPermutation, IsSorted}
use Rattle.std.proofs.lemmas.Cmp.{nat_cmp_total, int_cmp_total, on_total, then_total, back_total}
use Rattle.std.proofs.lemmas.List.{get_or-map, length-map}
use Rattle.std.proofs.lemmas.List.Sorted.{ranks_by, sorted_far, All-permutation, Contains-permutation, length_permutation}
use Rattle.std.proofs.lemmas.Grind.{common_steps}
use Rattle.pending_set.specs.Waiting.{priority_of, comes_before}
use Rattle.pending_set.specs.Ranking.{entry_at, AreEntries, IsPrecedence}

abbrev Entry : Type 0
Entry = Reverse ℤ × ℕ

pub AreEntries-push : (priorities : List ℤ) (n : ℕ) (entries : List Entry) (e : Entry) → AreEntries priorities n entries → e ≡ entry_at priorities n → AreEntries priorities (n + 1) (entries ++ e ∷ [])
AreEntries-push priorities n entries e h is = record {
  long = grind (arith, common_steps, h.long);
  each = λ k d lt. grind (arith, common_steps, h.long, h.each k d, is);
}

entry_cmp : Entry → Entry → Ordering
entry_cmp x y = ordering_then (int_cmp y.0.0 x.0.0) (nat_cmp x.1 y.1)

entry_total : IsTotalOrder entry_cmp
unfolding entry_cmp
entry_total = then_total (on_total (λ (e : Entry). e.0.0) (back_total int_cmp_total)) (on_total (λ (e : Entry). e.1) nat_cmp_total)

-- a and b say which of two priorities is less, c and e which of two numbers is less or the same
by_tests : (a b c e : Bool) → is_lt (ordering_then (cond a Less (cond b Greater Equal)) (cond c Less (cond e Equal Greater))) ≡ (a || (is_eq (cond b Less (cond a Greater Equal)) && c))
by_tests true b c e = refl
by_tests false true c e = refl
by_tests false false true e = refl
by_tests false false false true = refl
by_tests false false false false = refl

is_lt-entry : (p q : ℤ) (m n : ℕ) → is_lt (ordering_then (int_cmp q p) (nat_cmp m n)) ≡ (int_lt q p || (int_eq p q && nat_lt m n))
is_lt-entry p q m n = by_tests (int_lt q p) (int_lt p q) (nat_lt m n) (m == n)

not_before : (priorities : List ℤ) (x y : Entry) → x.0.0 ≡ priority_of priorities x.1 → y.0.0 ≡ priority_of priorities y.1 → is_lt (ordering_then (int_cmp y.0.0 x.0.0) (nat_cmp x.1 y.1)) ≡ false → comes_before priorities x.1 y.1 ≡ false
not_before priorities x y p q h = sym (is_lt-entry (priority_of priorities x.1) (priority_of priorities y.1) x.1 y.1) ∙ rw (← p, ← q) h

-- an entry of these priorities
record IsEntry (priorities : List ℤ) (e : Entry) : Type 0 where
  below : e.1 < length priorities
  is : e.0.0 ≡ priority_of priorities e.1

at_entry : (priorities : List ℤ) (n : ℕ) (e : Entry) → n < length priorities → e ≡ entry_at priorities n → IsEntry priorities e
at_entry priorities n e lt is = record { below = subst (λ (m : ℕ). m < length priorities) (sym (ap (λ (x : Entry). x.1) is)) lt; is = rw is refl }

all_entries : (priorities : List ℤ) (entries : List Entry) → AreEntries priorities (length priorities) entries → All (IsEntry priorities) entries
all_entries priorities entries h k d lt =
    let n : k < length priorities = omega (arith, h.long) in
    at_entry priorities k (get_or entries k d) n (h.each k d n)

no_entry : Entry
no_entry = (record { 0 = pos 0 }, 0)

number_at : (sorted : List Entry) (k : ℕ) → k < length sorted → slice_index (map (λ (e : Entry). e.1) sorted) k ≡ (get_or sorted k no_entry).1
number_at sorted k lt = get_or-map (λ (e : Entry). e.1) sorted k no_entry 0 lt

length-numbers : (sorted : List Entry) → length (map (λ (e : Entry). e.1) sorted) ≡ length sorted
length-numbers sorted = length-map sorted (λ (e : Entry). e.1)

numbers_below : (priorities : List ℤ) (sorted : List Entry) → All (IsEntry priorities) sorted → (k : ℕ) → k < length sorted → slice_index (map (λ (e : Entry). e.1) sorted) k < length priorities
numbers_below priorities sorted all k lt =
    subst (λ (m : ℕ). m < length priorities) (sym (number_at sorted k lt)) (all k no_entry lt).below

numbers_fall : (priorities : List ℤ) (sorted : List Entry) → All (IsEntry priorities) sorted → IsSorted (λ (x y : Entry). ordering_then (int_cmp y.0.0 x.0.0) (nat_cmp x.1 y.1)) sorted → (i j : ℕ) → i ≤ j → j < length sorted → comes_before priorities (slice_index (map (λ (e : Entry). e.1) sorted) j) (slice_index (map (λ (e : Entry). e.1) sorted) i) ≡ false
unfolding entry_cmp
numbers_fall priorities sorted all up i j le lt =
    let before : i < length sorted = omega arith in
    let far : is_lt (entry_cmp (get_or sorted j no_entry) (get_or sorted i no_entry)) ≡ false = sorted_far (λ (x y : Entry). is_lt (entry_cmp x y)) (ranks_by entry_total (λ (e : Entry). e)) sorted up i j no_entry le lt in
    rw (number_at sorted j lt, number_at sorted i before) (not_before priorities (get_or sorted j no_entry) (get_or sorted i no_entry) (all j no_entry lt).is (all i no_entry before).is far)

entry_stands : (priorities : List ℤ) (entries : List Entry) → AreEntries priorities (length priorities) entries → (n : ℕ) → n < length priorities → Contains entries (entry_at priorities n)
entry_stands priorities entries h n lt = (n, omega (arith, h.long), h.each n (entry_at priorities n) lt)

number_stands : (sorted : List Entry) (e : Entry) → Contains sorted e → (k : ℕ) × (k < length (map (λ (x : Entry). x.1) sorted)) × (slice_index (map (λ (x : Entry). x.1) sorted) k ≡ e.1)
number_stands sorted e h = (h.0, omega (arith, length-numbers sorted, h.1), get_or-map (λ (x : Entry). x.1) sorted h.0 e 0 h.1 ∙ ap (λ (x : Entry). x.1) h.2)

pub precedence : (priorities : List ℤ) (entries sorted : List Entry) → AreEntries priorities (length priorities) entries → IsPermutation entries sorted → IsSorted (λ (x y : Entry). ordering_then (int_cmp y.0.0 x.0.0) (nat_cmp x.1 y.1)) sorted → IsPrecedence priorities (map (λ (e : Entry). e.1) sorted)
precedence priorities entries sorted h moved up =
    let all : All (IsEntry priorities) sorted = All-permutation (IsEntry priorities) entries sorted moved (all_entries priorities entries h) in
    let long : length (map (λ (e : Entry). e.1) sorted) ≡ length priorities = length-numbers sorted ∙ length_permutation entries sorted moved ∙ h.long in
    record {
      long = long;
      whole = record {
        below = λ k lt. subst (λ (m : ℕ). slice_index (map (λ (e : Entry). e.1) sorted) k < m) (sym long) (numbers_below priorities sorted all k (omega (arith, lt, length-numbers sorted)));
        holds = λ n lt. number_stands sorted (entry_at priorities n) (Contains-permutation entries sorted (entry_at priorities n) moved (entry_stands priorities entries h n (omega (arith, lt, long))));
      };
      falls = λ i j le lt. numbers_fall priorities sorted all up i j le (omega (arith, lt, length-numbers sorted));
    }
