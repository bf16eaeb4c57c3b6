-- Texts are escaped byte by byte, and written character by character.
use Rattle.std.proofs.Common.{◌≡◌, ℕ, suc, ◌<◌, ◌≤◌, false, nat_eq, List, [], ◌∷◌, ◌++◌, length, get_or, encode_utf8, inl, inr, refl, sym, ap, ap₂, ◌∙◌, arith, append_assoc, append-nil}
use Rattle.std.proofs.lemmas.Bool.{cases_lt}
use Rattle.std.proofs.lemmas.Bool.Decides.{nat_tests}
use Rattle.std.proofs.lemmas.Str.{encode_ascii, inside_one}
use Rattle.app_printer.specs.Canonical.{escaped_byte, escaped}

pub escaped-append : (xs ys : List ℕ) → escaped (xs ++ ys) ≡ escaped xs ++ escaped ys
escaped-append [] ys = refl
escaped-append (x ∷ xs) ys = ap (λ l. escaped_byte x ++ l) (escaped-append xs ys) ∙ sym (append_assoc (escaped_byte x) (escaped xs) (escaped ys))

-- a byte that stands for itself
pub escaped_byte-plain : (b : ℕ) → nat_eq b 34 ≡ false → nat_eq b 92 ≡ false → nat_eq b 10 ≡ false → escaped_byte b ≡ b ∷ []
escaped_byte-plain b quote backslash feed = rw (quote, backslash, feed) refl

other : (b k : ℕ) → k < 128 → 128 ≤ b → nat_eq b k ≡ false
other b k low high = grind (arith, nat_tests)

escaped-high : (bs : List ℕ) → ((k : ℕ) → k < length bs → 128 ≤ get_or bs k 0) → escaped bs ≡ bs
escaped-high [] high = refl
escaped-high (b ∷ bs) high =
    let here : 128 ≤ b = high 0 (omega arith) in
    ap₂ (λ (a b : List ℕ). a ++ b) (escaped_byte-plain b (other b 34 (omega arith) here) (other b 92 (omega arith) here) (other b 10 (omega arith) here))
    (escaped-high bs (λ k below. high (suc k) (omega arith)))

-- a character that stands for itself
pub escaped-encode : (c : ℕ) → nat_eq c 34 ≡ false → nat_eq c 92 ≡ false → nat_eq c 10 ≡ false → escaped (encode_utf8 c) ≡ encode_utf8 c
escaped-encode c quote backslash feed = elim (cases_lt c 128) [
  | inl low ↦ rw (encode_ascii c low) (ap (λ l. l ++ []) (escaped_byte-plain c quote backslash feed))
  | inr high ↦
      escaped-high (encode_utf8 c) (λ k below. elim (cases_lt (get_or (encode_utf8 c) k 0) 128) [
        | inl low ↦ absurd (omega (arith, inside_one c [] (encode_utf8 c) k (sym (append-nil (encode_utf8 c))) below low))
        | inr h ↦ h
      ])
]
