-- Who waits, and who is next.
use Rattle.std.specs.Prelude.{◌≡◌, ℕ, suc, ℤ, pos, Bool, true, false, not, ◌&&◌, ◌||◌, nat_lt, int_lt, List, [], ◌∷◌, length, Option, Some, None, slice_set, slice_index_or, replicate, if◌then◌else◌}
use Rattle.std.specs.Ordering.{int_eq}
use Rattle.std.specs.List.{find, list_any}

-- by number: the priority, and whether the number waits
pub record Waiting : Type 0 where
  pub priorities : List ℤ
  pub waits : List Bool

abbrev pub priority_of : List ℤ → ℕ → ℤ
priority_of priorities n = slice_index_or priorities n (pos 0)

-- higher priority first, and of equal priority the smaller number
abbrev pub comes_before : List ℤ → ℕ → ℕ → Bool
comes_before priorities m n =
    int_lt (priority_of priorities n) (priority_of priorities m)
    || (int_eq (priority_of priorities m) (priority_of priorities n) && nat_lt m n)

abbrev pub waits_at : Waiting → ℕ → Bool
waits_at w n = slice_index_or w.waits n false

-- n waits, and nothing that waits comes before it
pub record IsNextWaiting (w : Waiting) (n : ℕ) : Type 0 where
  pub waits : waits_at w n ≡ true
  pub first : (m : ℕ) → waits_at w m ≡ true → comes_before w.priorities m n ≡ false

abbrev pub NoneWaits : Waiting → Type 0
NoneWaits w = (n : ℕ) → waits_at w n ≡ false

-- the places of `true`, where the first place is n
abbrev pub true_places : ℕ → List Bool → List ℕ
true_places n [] = []
true_places n (b ∷ bs) = if b then n ∷ true_places (suc n) bs else true_places (suc n) bs

-- the numbers that wait, rising
abbrev pub waiting : Waiting → List ℕ
waiting w = true_places 0 w.waits

-- of the numbers that wait, the one that none of them comes before
abbrev pub next_waiting : Waiting → Option ℕ
next_waiting w = find (λ n. not (list_any (λ m. comes_before w.priorities m n) (waiting w))) (waiting w)

abbrev pub none_waiting : List ℤ → Waiting
none_waiting priorities = record { priorities = priorities; waits = replicate (length priorities) false }

-- with n waiting, or not, and every other number as before
abbrev pub with_waiting : Bool → ℕ → Waiting → Waiting
with_waiting b n w = record w { waits = slice_set w.waits n b }

-- after this answer of `next`
abbrev pub after_next : Option ℕ → Waiting → Waiting
after_next None w = w
after_next (Some n) w = with_waiting false n w
