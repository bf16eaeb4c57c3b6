-- What a set keeps so that the next number is found without comparing.
use Rattle.std.specs.Prelude.{◌≡◌, ℕ, ℤ, Bool, true, false, ◌<◌, ◌≤◌, List, length, slice_index, slice_index_or}
use Rattle.std.specs.declared.cmp.Reverse.{Reverse}
use Rattle.pending_set.specs.Waiting.{priority_of, comes_before}
use Rattle.pending_set.specs.Tree.{Row, is_set}

abbrev pub entry_at : List ℤ → ℕ → Reverse ℤ × ℕ
entry_at priorities n = (record { 0 = priority_of priorities n }, n)

-- the first numbers in their order, each behind its priority
pub record AreEntries (priorities : List ℤ) (count : ℕ) (entries : List (Reverse ℤ × ℕ)) : Type 0 where
  pub long : length entries ≡ count
  pub each : (k : ℕ) (d : Reverse ℤ × ℕ) → k < count → slice_index_or entries k d ≡ entry_at priorities k

-- its numbers are those below its length
pub record IsWhole (order : List ℕ) : Type 0 where
  pub below : (k : ℕ) → k < length order → slice_index order k < length order
  pub holds : (n : ℕ) → n < length order → (k : ℕ) × (k < length order) × (slice_index order k ≡ n)

-- the numbers of the priorities, none behind one that it comes before
pub record IsPrecedence (priorities : List ℤ) (order : List ℕ) : Type 0 where
  pub long : length order ≡ length priorities
  pub whole : IsWhole order
  pub falls : (i j : ℕ) → i ≤ j → j < length order
      → comes_before priorities (slice_index order j) (slice_index order i) ≡ false

-- for the numbers in front of this place of the order, where they stand in it
pub record AreRanked (order ranks : List ℕ) (place : ℕ) : Type 0 where
  pub long : length ranks ≡ length order
  pub below : (k : ℕ) → k < place → slice_index ranks (slice_index order k) < length order
  pub is : (k : ℕ) → k < place → slice_index order (slice_index ranks (slice_index order k)) ≡ slice_index order k

-- where each number stands in the order
pub record IsRank (order ranks : List ℕ) : Type 0 where
  pub long : length ranks ≡ length order
  pub below : (n : ℕ) → n < length order → slice_index ranks n < length order
  pub is : (n : ℕ) → n < length order → slice_index order (slice_index ranks n) ≡ n

-- the places that are set are those of the numbers that wait
pub record IsShown (order ranks : List ℕ) (waits : List Bool) (row : Row) : Type 0 where
  pub each : (n : ℕ) → slice_index_or waits n false ≡ true → is_set row (slice_index ranks n) ≡ true
  pub within : (k : ℕ) → is_set row k ≡ true → k < length order
  pub stands : (k : ℕ) → is_set row k ≡ true → slice_index_or waits (slice_index order k) false ≡ true
  pub rank : (k : ℕ) → is_set row k ≡ true → slice_index ranks (slice_index order k) ≡ k
