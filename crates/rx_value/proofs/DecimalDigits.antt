-- Digits and the number that they stand for.
use Rattle.std.proofs.Common.{◌≡◌, ℕ, ◌+◌, ◌-◌, ◌*◌, ◌^◌, ◌<◌, ◌≤◌, List, [], ◌∷◌, length, get_or, drop, arith, Bool, true, false, ◌&&◌, sym, ◌∙◌, refl}
use Rattle.std.specs.Prelude.{nat_le}
use Rattle.std.specs.List.{list_all}
use Rattle.std.specs.Char.{is_ascii_digit}
use Rattle.std.proofs.lemmas.List.{drop_more}
use Rattle.std.proofs.lemmas.Bool.{and_right}
use Rattle.std.proofs.lemmas.Bool.Decides.{nat_tests}
use Rattle.rx_value.specs.Functions.{number_behind, are_digits}

-- more digits make no smaller number
pub number_behind-grows : (n : ℕ) (digits : List ℕ) → n ≤ number_behind n digits
number_behind-grows n [] = omega arith
number_behind-grows n (d ∷ digits) = omega (arith, number_behind-grows (n * 10 + (d - 48)) digits)

too_great : (m n : ℕ) → m ≤ n → nat_le m (2 ^ 63) ≡ false → nat_le n (2 ^ 63) ≡ false
too_great m n le h = grind (arith, nat_tests)

-- what no digit follows, or one that makes the number too great, is no number
unfit : (byte n : ℕ) (rest : List ℕ) (digit : Bool) → is_ascii_digit byte ≡ digit → (digit && nat_le (n * 10 + (byte - 48)) (2 ^ 63)) ≡ false
    → (digit && list_all is_ascii_digit rest && nat_le (number_behind n (byte ∷ rest)) (2 ^ 63)) ≡ false
unfit byte n rest true is stops = and_right _ _ (too_great _ _ (number_behind-grows (n * 10 + (byte - 48)) rest) stops)
unfit byte n rest false is stops = refl

pub stops-at : (bytes : List ℕ) (i n : ℕ) → i < length bytes
    → number_behind n (drop i bytes) ≡ number_behind 0 bytes
    → list_all is_ascii_digit (drop i bytes) ≡ list_all is_ascii_digit bytes
    → (is_ascii_digit (get_or bytes i 0) && nat_le (n * 10 + (get_or bytes i 0 - 48)) (2 ^ 63)) ≡ false
    → (are_digits bytes && nat_le (number_behind 0 bytes) (2 ^ 63)) ≡ false
stops-at [] i n lt value digits stops = absurd (omega arith)
stops-at (b ∷ bytes) i n lt value digits stops =
    let value_is = rw (drop_more (b ∷ bytes) i 0 lt) at value in
    let digits_are = rw (drop_more (b ∷ bytes) i 0 lt) at digits in
    (λ k. sym digits_are k && nat_le (sym value_is k) (2 ^ 63)) ∙ unfit (get_or (b ∷ bytes) i 0) n (drop (i + 1) (b ∷ bytes)) _ refl stops
