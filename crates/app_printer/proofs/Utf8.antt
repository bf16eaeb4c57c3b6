-- The parts of a canonical text are UTF-8.
use Rattle.std.proofs.Common.{◌≡◌, ℕ, zero, suc, ◌<◌, List, [], ◌∷◌, refl, sym, subst, arith, Bool, true, false, ◌&&◌, nat_eq, nat_lt, encode_utf8, encode_utf8_all}
use Rattle.std.specs.Prelude.{slice_index}
use Rattle.std.specs.List.{list_all}
use Rattle.std.specs.Str.{IsUtf8, all_scalars}
use Rattle.std.specs.Char.{IsScalar}
use Rattle.std.proofs.lemmas.Bool.Decides.{nat_tests}
use Rattle.std.proofs.lemmas.Str.{IsUtf8-append, IsUtf8-encode, IsUtf8-from_ascii, IsUtf8-nil, encode_ascii}
use Rattle.std.proofs.Math.Bool.{and-eq-true_iff}
use Rattle.rx_value.specs.Names.{is_letter, is_digit, is_of_word}
use Rattle.app_tokens.specs.Scan.{is_blank}
use Rattle.app_printer.specs.Canonical.{escaped}
use Rattle.app_printer.proofs.Escapes.{escaped-append, escaped-encode}

-- ---- bytes of ASCII

-- bytes that pass a test which no byte from 128 on passes
pub low_utf8 : (test : ℕ → Bool) → ((b : ℕ) → test b ≡ true → b < 128) → (s : List ℕ) → list_all test s ≡ true → IsUtf8 s
low_utf8 test low s all = IsUtf8-from_ascii s (each s all)
  where
    each : (s : List ℕ) → list_all test s ≡ true → (i : ℕ) → slice_index s i < 128
    each [] all i = omega arith
    each (b ∷ s) all zero = low b ((and-eq-true_iff (test b) (list_all test s)).0 all).0
    each (b ∷ s) all (suc i) = each s ((and-eq-true_iff (test b) (list_all test s)).0 all).1 i

abbrev pub is_ascii : List ℕ → Bool
is_ascii s = list_all (λ b. nat_lt b 128) s

pub ascii_utf8 : (s : List ℕ) → is_ascii s ≡ true → IsUtf8 s
ascii_utf8 s all = low_utf8 (λ b. nat_lt b 128) below s all
  where
    below : (b : ℕ) → nat_lt b 128 ≡ true → b < 128
    below b e = grind (arith, nat_tests)

of_word_low : (b : ℕ) → is_of_word b ≡ true → b < 128
of_word_low b e = grind arith

letter_low : (b : ℕ) → is_letter b ≡ true → is_of_word b ≡ true
letter_low b e = rw e refl

pub word_utf8 : (b : ℕ) (bs : List ℕ) → is_letter b ≡ true → list_all is_of_word bs ≡ true → IsUtf8 (b ∷ bs)
word_utf8 b bs letter all = low_utf8 is_of_word of_word_low (b ∷ bs) (rw (letter_low b letter, all) refl)

digit_low : (b : ℕ) → is_digit b ≡ true → b < 128
digit_low b e = grind arith

pub digits_utf8 : (ds : List ℕ) → list_all is_digit ds ≡ true → IsUtf8 ds
digits_utf8 = low_utf8 is_digit digit_low

blank_low : (b : ℕ) → is_blank b ≡ true → nat_lt b 128 ≡ true
blank_low b e = grind (arith, nat_tests)

pub blank_utf8 : (b : ℕ) → is_blank b ≡ true → IsUtf8 (b ∷ [])
blank_utf8 b blank = ascii_utf8 (b ∷ []) (rw (blank_low b blank) refl)

-- ---- escaped texts

same_number : (b c : ℕ) → nat_eq b c ≡ true → c ≡ b
same_number b c e = grind (arith, nat_tests)

-- a character of ASCII that is escaped
pair_utf8 : (c k : ℕ) → k < 128 → nat_eq c k ≡ true → IsUtf8 (escaped (k ∷ [])) → IsUtf8 (escaped (encode_utf8 c))
pair_utf8 c k low is utf8 =
    let P : List ℕ → Type 0 = λ l. IsUtf8 (escaped l) in
    let Q : ℕ → Type 0 = λ c. IsUtf8 (escaped (encode_utf8 c)) in
    subst Q (same_number c k is) (subst P (sym (encode_ascii k low)) utf8)

character_utf8 : (c : ℕ) → IsScalar c → IsUtf8 (escaped (encode_utf8 c))
character_utf8 c scalar = by (nat_eq c 34) (nat_eq c 92) (nat_eq c 10) refl refl refl
  where
    by : (q s f : Bool) → nat_eq c 34 ≡ q → nat_eq c 92 ≡ s → nat_eq c 10 ≡ f → IsUtf8 (escaped (encode_utf8 c))
    by true s f quote slash feed = pair_utf8 c 34 (omega arith) quote (ascii_utf8 (92 ∷ 34 ∷ []) refl)
    by false true f quote slash feed = pair_utf8 c 92 (omega arith) slash (ascii_utf8 (92 ∷ 92 ∷ []) refl)
    by false false true quote slash feed = pair_utf8 c 10 (omega arith) feed (ascii_utf8 (92 ∷ 110 ∷ []) refl)
    by false false false quote slash feed =
        let P : List ℕ → Type 0 = λ l. IsUtf8 l in
        subst P (sym (escaped-encode c quote slash feed)) (IsUtf8-encode c scalar)

characters_utf8 : (cs : List ℕ) → all_scalars cs ≡ true → IsUtf8 (escaped (encode_utf8_all cs))
characters_utf8 [] all = IsUtf8-nil
characters_utf8 (c ∷ cs) all =
    let h = (and-eq-true_iff _ (all_scalars cs)).0 all in
    let P : List ℕ → Type 0 = λ l. IsUtf8 l in
    subst P (sym (escaped-append (encode_utf8 c) (encode_utf8_all cs)))
    (IsUtf8-append (escaped (encode_utf8 c)) (escaped (encode_utf8_all cs)) (character_utf8 c h.0) (characters_utf8 cs h.1))

pub escaped_utf8 : (bs : List ℕ) → IsUtf8 bs → IsUtf8 (escaped bs)
escaped_utf8 bs utf8 =
    let P : List ℕ → Type 0 = λ l. IsUtf8 (escaped l) in
    subst P utf8.1.1 (characters_utf8 utf8.0 utf8.1.0)
