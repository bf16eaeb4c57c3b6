-- The value of a text is UTF-8, as the file is.
use Rattle.std.proofs.Common.{◌≡◌, ℕ, zero, suc, ◌+◌, ◌<◌, ◌≤◌, List, [], ◌∷◌, ◌++◌, length, drop, refl, sym, ◌∙◌, subst, arith, Bool, true, false, nat_eq, length-drop, Option, Some, None, Result, Ok, Err}
use Rattle.std.specs.Prelude.{take_while, slice_index, if◌then◌else◌}
use Rattle.std.specs.Str.{IsUtf8}
use Rattle.std.proofs.lemmas.Str.{IsUtf8-append, IsUtf8-from_ascii, IsUtf8-take, IsUtf8-drop, IsUtf8-nil, IsCharBoundary-after_ascii}
use Rattle.app_tokens.specs.declared.error.TokenError.{TokenError}
use Rattle.app_tokens.specs.declared.error.TokenError.TheVariants.{BadByte}
use Rattle.rx_value.specs.Results.{◌>>=◌}
use Rattle.app_tokens.specs.Scan.{text_from, refusal_at_end, is_pair, meaning_of}
use Rattle.app_tokens.specs.inner.Text.{is_plain, pair_of}
use Rattle.app_tokens.proofs.Digits.{take-length-take_while}
use Rattle.app_tokens.proofs.Texts.{text_from-turn, IsCharBoundary-plain, behind}

bind_ok : {A B : Type 0} (r : Result A TokenError) (f : A → Result B TokenError) (y : B) → (r >>= f) ≡ Ok y → (x : A) × (r ≡ Ok x) × (f x ≡ Ok y)
bind_ok (Ok x) f y e = (x, refl, e)
bind_ok (Err d) f y e = absurd cc

abbrev ok : {A : Type 0} → A → Result A TokenError
ok x = Ok x

ok_is : {A : Type 0} (x y : A) → ok x ≡ ok y → x ≡ y
ok_is x y e = cc

cut_off_no : {A P : Type 0} (whole : Bool) (quote place : ℕ) (y : A) → refusal_at_end whole quote place ≡ Ok y → P
cut_off_no true quote place y e = absurd cc
cut_off_no false quote place y e = absurd cc

-- ---- pairs

-- what a pair stands for is ASCII, and what stands behind it is UTF-8 where it is
record Paired (m : ℕ) (bs : List ℕ) : Type 0 where
  low : m < 128
  two : 2 ≤ length bs
  utf8 : IsUtf8 bs → IsUtf8 (drop 2 bs)

meaning_low : (c : ℕ) → is_pair c ≡ true → (c < 128) × (meaning_of c < 128)
meaning_low c e = (low c e, each (nat_eq c 110) (low c e))
  where
    low : (c : ℕ) → is_pair c ≡ true → c < 128
    low c e = grind arith

    each : (b : Bool) → c < 128 → (if b then 10 else c) < 128
    each true h = omega arith
    each false h = h

backslash_behind : (b c : ℕ) (rest : List ℕ) → b < 128 → c < 128 → IsUtf8 (b ∷ c ∷ rest) → IsUtf8 rest
backslash_behind b c rest one other utf8 =
    let first = IsUtf8-drop (b ∷ c ∷ rest) 1 utf8 (IsCharBoundary-after_ascii (b ∷ c ∷ rest) 0 utf8 (omega arith) one) in
    IsUtf8-drop (c ∷ rest) 1 first (IsCharBoundary-after_ascii (c ∷ rest) 0 first (omega arith) other)

pair_is : (whole : Bool) (quote place m : ℕ) (bs : List ℕ) → pair_of whole quote place bs ≡ Ok (Some m) → Paired m bs
unfolding pair_of
pair_is whole quote place m [] e = cut_off_no whole quote place (Some m) e
pair_is whole quote place m (b ∷ []) e = each (nat_eq b 34) (nat_eq b 92) e
  where
    each : (q s : Bool) → (if q then Ok None else (if s then refusal_at_end whole quote place else Err (BadByte place))) ≡ ok (Some m) → Paired m (b ∷ [])
    each true s e = absurd cc
    each false true e = cut_off_no whole quote place (Some m) e
    each false false e = absurd cc
pair_is whole quote place m (b ∷ c ∷ rest) e = each (nat_eq b 34) (nat_eq b 92) (is_pair c) refl refl e
  where
    slash : (b : ℕ) → nat_eq b 92 ≡ true → b < 128
    slash b e = grind arith

    some_is : (x y : ℕ) → ok (Some x) ≡ ok (Some y) → x ≡ y
    some_is x y e = cc

    each : (q s p : Bool) → nat_eq b 92 ≡ s → is_pair c ≡ p → (if q then Ok None else (if s then (if p then Ok (Some (meaning_of c)) else Err (BadByte place)) else Err (BadByte place))) ≡ ok (Some m) → Paired m (b ∷ c ∷ rest)
    each true s p is_slash is e = absurd cc
    each false true true is_slash is e =
        let low = meaning_low c is in
        record { low = subst (λ k. k < 128) (some_is (meaning_of c) m e) low.1; two = omega arith; utf8 = backslash_behind b c rest (slash b is_slash) low.0 }
    each false true false is_slash is e = absurd cc
    each false false p is_slash is e = absurd cc

-- ---- texts

one_byte : (m : ℕ) → m < 128 → IsUtf8 (m ∷ [])
one_byte m low = IsUtf8-from_ascii (m ∷ []) each
  where
    each : (i : ℕ) → slice_index (m ∷ []) i < 128
    each zero = low
    each (suc i) = omega arith

plain_utf8 : (bs : List ℕ) → IsUtf8 bs → IsUtf8 (take_while is_plain bs)
plain_utf8 bs utf8 =
    let P : List ℕ → Type 0 = λ l. IsUtf8 l in
    subst P (take-length-take_while is_plain bs) (IsUtf8-take bs (length (take_while is_plain bs)) utf8 (IsCharBoundary-plain bs))

-- what a text of fewer than n bytes gives is UTF-8
abbrev Below : ℕ → Bool → ℕ → List ℕ × ℕ → Type 0
Below n whole quote t = (place : ℕ) (value bs : List ℕ) → length bs < n → IsUtf8 value → IsUtf8 bs → text_from whole quote place value bs ≡ Ok t → IsUtf8 t.0

-- behind a run of plain bytes
goes : (n : ℕ) (whole : Bool) (quote place : ℕ) (value after : List ℕ) (t : List ℕ × ℕ) (p : Option ℕ) → Below n whole quote t → length after ≤ n → IsUtf8 value → IsUtf8 after
    → pair_of whole quote place after ≡ Ok p → behind whole quote place value after p ≡ Ok t → IsUtf8 t.0
goes n whole quote place value after t None below le done utf8 is e =
    let P : List ℕ × ℕ → Type 0 = λ t. IsUtf8 t.0 in
    subst P (ok_is (value, place + 1) t e) done
goes n whole quote place value after t (Some m) below le done utf8 is e =
    let pair = pair_is whole quote place m after is in
    let fewer : length (drop 2 after) < n = omega (arith, le, pair.two, length-drop 2 after) in
    below (place + 2) (value ++ m ∷ []) (drop 2 after) fewer (IsUtf8-append value (m ∷ []) done (one_byte m pair.low)) (pair.utf8 utf8) e

text_turn : (n : ℕ) (whole : Bool) (quote place : ℕ) (value bs : List ℕ) (t : List ℕ × ℕ) → Below n whole quote t → length bs ≤ n → IsUtf8 value → IsUtf8 bs
    → text_from whole quote place value bs ≡ Ok t → IsUtf8 t.0
text_turn n whole quote place value bs t below le done utf8 e =
    let plain = take_while is_plain bs in
    let after = drop (length plain) bs in
    let at = place + length plain in
    let p = bind_ok (pair_of whole quote at after) (behind whole quote at (value ++ plain) after) t (sym (text_from-turn whole quote place value bs) ∙ e) in
    let fewer : length after ≤ n = omega (arith, le, length-drop (length plain) bs) in
    goes n whole quote at (value ++ plain) after t p.0 below fewer (IsUtf8-append value plain done (plain_utf8 bs utf8)) (IsUtf8-drop bs (length plain) utf8 (IsCharBoundary-plain bs)) p.1 p.2

text_below : (n : ℕ) (whole : Bool) (quote : ℕ) (t : List ℕ × ℕ) → Below n whole quote t
text_below zero whole quote t place value bs lt done utf8 e = absurd (omega (arith, lt))
text_below (suc n) whole quote t place value bs lt done utf8 e = text_turn n whole quote place value bs t (text_below n whole quote t) (omega (arith, lt)) done utf8 e

pub text_from-utf8 : (whole : Bool) (quote place : ℕ) (inside : List ℕ) (t : List ℕ × ℕ) → IsUtf8 inside → text_from whole quote place [] inside ≡ Ok t → IsUtf8 t.0
text_from-utf8 whole quote place inside t utf8 e = text_below (suc (length inside)) whole quote t place [] inside (omega arith) IsUtf8-nil utf8 e
