-- Sums, and numbers one behind the other.
use Rattle.std.proofs.Common.{◌≡◌, ℕ, suc, ◌+◌, ◌-◌, ◌<◌, List, [], ◌∷◌, ◌++◌, length, get_or, drop, arith, ap, sym, ◌∙◌, append_assoc, ℤ, pos, ◌+ℤ◌}
use Rattle.std.proofs.lemmas.Int.{ints}
use Rattle.std.proofs.lemmas.List.{drop_more}
use Rattle.rx_value.specs.Functions.{sum_of, numbers_from}

pub sum_of-drop : (zs : List ℤ) (i : ℕ) → i < length zs → sum_of (drop i zs) ≡ get_or zs i (pos 0) +ℤ sum_of (drop (i + 1) zs)
sum_of-drop zs i lt = ap sum_of (drop_more zs i (pos 0) lt)

numbers_from-suc : (z : ℤ) (m n : ℕ) → m ≡ suc n → numbers_from z m ≡ z ∷ numbers_from (z +ℤ pos 1) n
numbers_from-suc z m n e = ap (numbers_from z) e

-- one number further
pub numbers_from-step : (first number : ℤ) (count step : ℕ) (before : List ℤ) → step < count → number ≡ first +ℤ pos step
    → (before ++ number ∷ []) ++ numbers_from (first +ℤ pos (step + 1)) (count - (step + 1)) ≡ before ++ numbers_from (first +ℤ pos step) (count - step)
numbers_from-step first number count step before lt is =
    let next : (first +ℤ pos step) +ℤ pos 1 ≡ first +ℤ pos (step + 1) = omega (arith, ints) in
    let fewer : count - step ≡ suc (count - (step + 1)) = omega arith in
    append_assoc before (number ∷ []) (numbers_from (first +ℤ pos (step + 1)) (count - (step + 1))) ∙ ap (λ (zs : List ℤ). before ++ zs)
    ((λ i. is i ∷ numbers_from (sym next i) (count - (step + 1))) ∙ sym (numbers_from-suc (first +ℤ pos step) _ _ fewer))
