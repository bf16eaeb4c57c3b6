-- Digits and the number that they spell.
use Rattle.std.proofs.Common.{◌≡◌, ℕ, zero, suc, ◌+◌, ◌-◌, ◌*◌, ◌<◌, ◌≤◌, List, [], ◌∷◌, length, get_or, drop, take, refl, ap, arith, Bool, true, false, cond}
use Rattle.std.specs.Prelude.{take_while, IsTrue}
use Rattle.std.proofs.lemmas.List.{drop_more}
use Rattle.std.proofs.lemmas.List.Sums.{take_while-cons}
use Rattle.rx_value.specs.Names.{is_digit}
use Rattle.app_tokens.specs.Scan.{value_after, AreDigits}

-- more digits make no smaller number
pub value_after-grows : (n : ℕ) (digits : List ℕ) → n ≤ value_after n digits
value_after-grows n [] = omega arith
value_after-grows n (d ∷ digits) = omega (arith, value_after-grows (n * 10 + (d - 48)) digits)

-- one digit further
pub value_after-drop : (n i : ℕ) (digits : List ℕ) → i < length digits
    → value_after n (drop i digits) ≡ value_after (n * 10 + (get_or digits i 0 - 48)) (drop (i + 1) digits)
value_after-drop n i digits lt = rw (drop_more digits i 0 lt) refl

-- as many as pass are those that pass
pub take-length-take_while : (p : ℕ → Bool) (xs : List ℕ) → take (length (take_while p xs)) xs ≡ take_while p xs
take-length-take_while p [] = refl
take-length-take_while p (x ∷ xs) = rw (take_while-cons p x xs) (each (p x) (take-length-take_while p xs))
  where
    each : (b : Bool) → take (length (take_while p xs)) xs ≡ take_while p xs
        → take (length (cond b (x ∷ take_while p xs) [])) (x ∷ xs) ≡ cond b (x ∷ take_while p xs) []
    each true e = ap (λ (ys : List ℕ). x ∷ ys) e
    each false e = refl

-- the digits that bytes begin with are digits
pub AreDigits-take_while : (xs : List ℕ) → AreDigits (take_while is_digit xs)
AreDigits-take_while [] i lt = absurd (omega arith)
AreDigits-take_while (x ∷ xs) i lt =
    let h = rw (take_while-cons is_digit x xs) at lt in
    rw (take_while-cons is_digit x xs) (each (is_digit x) refl i h (AreDigits-take_while xs))
  where
    each : (b : Bool) → is_digit x ≡ b → (i : ℕ) → i < length (cond b (x ∷ take_while is_digit xs) []) → AreDigits (take_while is_digit xs)
        → IsTrue (is_digit (get_or (cond b (x ∷ take_while is_digit xs) []) i 0))
    each true e zero lt below = e
    each true e (suc j) lt below = below j (omega arith)
    each false e i lt below = absurd (omega arith)
