-- Where the first line feed stands.
use Rattle.std.proofs.Common.{◌≡◌, ℕ, suc, ◌+◌, ◌<◌, ◌≤◌, Bool, true, false, not, cond, List, [], ◌∷◌, ◌++◌, length, take, drop, refl, sym, ap, ◌∙◌, subst, arith, Some, None}
use Rattle.std.specs.Prelude.{◌==◌, nat_lt, position}
use Rattle.std.proofs.lemmas.Bool.Decides.{nat_tests}
use Rattle.session_model.specs.Lines.{HasNoFeed}
use Rattle.shiny_main.specs.inner.Pieces.{is_feed, feed_place}

-- one step of the search, by whether a feed stands first
place_at : (x : ℕ) (xs : List ℕ) (feed : Bool) → (x == 10) ≡ feed → feed_place (x ∷ xs) ≡ cond (not feed) (suc (feed_place xs)) 0
place_at x xs feed e =
    let one : 1 + feed_place xs ≡ suc (feed_place xs) = omega arith in
    ap (λ t. cond (not t) (1 + feed_place xs) 0) e ∙ ap (λ n. cond (not feed) n 0) one

front_by : (x : ℕ) (xs : List ℕ) (feed : Bool) → (x == 10) ≡ feed → HasNoFeed (take (feed_place xs) xs) → HasNoFeed (take (cond (not feed) (suc (feed_place xs)) 0) (x ∷ xs))
front_by x xs true e h = tt
front_by x xs false e h = (e, h)

-- no feed stands before it
pub no_feed_before : (xs : List ℕ) → HasNoFeed (take (feed_place xs) xs)
no_feed_before [] = tt
no_feed_before (x ∷ xs) =
    let P : ℕ → Type 0 = λ n. HasNoFeed (take n (x ∷ xs)) in
    subst P (sym (place_at x xs (x == 10) refl)) (front_by x xs (x == 10) refl (no_feed_before xs))

ten_of : (x : ℕ) → (x == 10) ≡ true → x ≡ 10
ten_of x e = grind (arith, nat_tests)

round_by : (x : ℕ) (xs : List ℕ) (feed : Bool) → (x == 10) ≡ feed → (feed_place xs < length xs → xs ≡ take (feed_place xs) xs ++ 10 ∷ drop (suc (feed_place xs)) xs)
    → cond (not feed) (suc (feed_place xs)) 0 < suc (length xs)
    → x ∷ xs ≡ take (cond (not feed) (suc (feed_place xs)) 0) (x ∷ xs) ++ 10 ∷ drop (suc (cond (not feed) (suc (feed_place xs)) 0)) (x ∷ xs)
round_by x xs true e h lt = ap (λ y. y ∷ xs) (ten_of x e)
round_by x xs false e h lt = ap (λ l. x ∷ l) (h (omega (arith, lt)))

-- and a feed stands at it, if any does
pub feed_at : (xs : List ℕ) → feed_place xs < length xs → xs ≡ take (feed_place xs) xs ++ 10 ∷ drop (suc (feed_place xs)) xs
feed_at [] lt = absurd (omega (arith, lt))
feed_at (x ∷ xs) lt =
    let at = place_at x xs (x == 10) refl in
    let Lt : ℕ → Type 0 = λ n. n < suc (length xs) in
    let P : ℕ → Type 0 = λ n. x ∷ xs ≡ take n (x ∷ xs) ++ 10 ∷ drop (suc n) (x ∷ xs) in
    subst P (sym at) (round_by x xs (x == 10) refl (feed_at xs) (subst Lt at lt))

none_by : (x : ℕ) (xs : List ℕ) (feed : Bool) → (x == 10) ≡ feed → (length xs ≤ feed_place xs → HasNoFeed xs) → suc (length xs) ≤ cond (not feed) (suc (feed_place xs)) 0 → HasNoFeed (x ∷ xs)
none_by x xs true e h le = absurd (omega (arith, le))
none_by x xs false e h le = (e, h (omega (arith, le)))

-- there is none where the place is the length
pub no_feed : (xs : List ℕ) → length xs ≤ feed_place xs → HasNoFeed xs
no_feed [] le = tt
no_feed (x ∷ xs) le =
    let Le : ℕ → Type 0 = λ n. suc (length xs) ≤ n in
    none_by x xs (x == 10) refl (no_feed xs) (subst Le (place_at x xs (x == 10) refl) le)

-- ---- the search of std

pub place_within : (xs : List ℕ) → feed_place xs ≤ length xs
place_within [] = omega arith
place_within (x ∷ xs) = within_by x xs (x == 10) refl (place_within xs)
  where
    within_by : (x : ℕ) (xs : List ℕ) (feed : Bool) → (x == 10) ≡ feed → feed_place xs ≤ length xs → feed_place (x ∷ xs) ≤ suc (length xs)
    within_by x xs true e h = let at = place_at x xs true e in omega (arith, at)
    within_by x xs false e h = let at = place_at x xs false e in omega (arith, at, h)

found_place : (found : Bool) (n p : ℕ) → cond found (Some n) None ≡ Some p → p ≡ n
found_place true n p e = let same : n ≡ p = cc in sym same
found_place false n p e = cc

pub position_some : (xs : List ℕ) (p : ℕ) → Some p ≡ position is_feed xs → p ≡ feed_place xs
position_some xs p e = found_place (nat_lt (feed_place xs) (length xs)) (feed_place xs) p (sym e)

missed_place : (found : Bool) (n : ℕ) → cond found (Some n) None ≡ None → found ≡ false
missed_place true n e = cc
missed_place false n e = refl

pub position_none : (xs : List ℕ) → None ≡ position is_feed xs → length xs ≡ feed_place xs
position_none xs e =
    let missed : nat_lt (feed_place xs) (length xs) ≡ false = missed_place (nat_lt (feed_place xs) (length xs)) (feed_place xs) (sym e) in
    let within = place_within xs in
    let far : length xs ≤ feed_place xs = grind (arith, nat_tests, missed) in
    omega (arith, within, far)
