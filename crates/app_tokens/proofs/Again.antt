-- Bytes that spell a token, and are followed by what doesn't go on with it, are read as this token.
use Rattle.std.proofs.Common.{◌≡◌, ℕ, ◌+◌, ◌-◌, ◌≤◌, List, [], ◌∷◌, ◌++◌, length, refl, ap, ◌∙◌, arith, Bool, true, false, ◌&&◌, nat_eq, nat_le, Some, None, Ok}
use Rattle.std.specs.Prelude.{⊤, take_while, if◌then◌else◌}
use Rattle.std.specs.List.{list_all}
use Rattle.std.proofs.lemmas.List.Sums.{take_while-cons}
use Rattle.app_tokens.specs.declared.symbol.Symbol.{Symbol}
use Rattle.app_tokens.specs.declared.symbol.Symbol.TheVariants as symbol
use Rattle.app_tokens.specs.declared.token.Kind.TheVariants as kind
use Rattle.app_tokens.specs.Symbol.{symbol_of, sized_or, one_byte_symbol, two_byte_symbol}
use Rattle.rx_value.specs.Names.{is_letter, is_digit, is_of_word}
use Rattle.std.proofs.Math.Bool.{and-eq-true_iff}
use Rattle.rx_value.specs.declared.limits.TheConstants.{TEXT_LIMIT, GREATEST_NUMBER}
use Rattle.app_tokens.specs.Scan.{gap, token, is_blank, value_after, word_piece, number_piece, text_piece, text_from, is_pair, meaning_of, symbol_piece, piece_of}

abbrev pub begins_with : (ℕ → Bool) → List ℕ → Bool
begins_with p [] = false
begins_with p (b ∷ bs) = p b

-- the bytes that pass, up to one that doesn't
pub take_while-append : (p : ℕ → Bool) (xs rest : List ℕ) → list_all p xs ≡ true → begins_with p rest ≡ false → take_while p (xs ++ rest) ≡ xs
take_while-append p [] [] all stop = refl
take_while-append p [] (b ∷ rest) all stop = rw (take_while-cons p b rest, stop) refl
take_while-append p (x ∷ xs) rest all stop =
    let h = (and-eq-true_iff (p x) (list_all p xs)).0 all in
    rw (take_while-cons p x (xs ++ rest), h.0) (ap (λ (ys : List ℕ). x ∷ ys) (take_while-append p xs rest h.1 stop))

pub piece_of-blank : (whole : Bool) (place b : ℕ) (rest : List ℕ) → is_blank b ≡ true → piece_of whole place (b ∷ rest) ≡ Ok (gap 1)
unfolding piece_of
piece_of-blank whole place b rest blank = rw blank refl

not_blank : (b : ℕ) → is_of_word b ≡ true → (is_blank b ≡ false) × (nat_eq b 35 ≡ false)
not_blank b e = (grind arith, grind arith)

letter_of_word : (b : ℕ) → is_letter b ≡ true → is_of_word b ≡ true
letter_of_word b e = rw e refl

digit_of_word : (b : ℕ) → is_digit b ≡ true → is_of_word b ≡ true
digit_of_word b e = grind arith

digit_no_letter : (b : ℕ) → is_digit b ≡ true → is_letter b ≡ false
digit_no_letter b e = grind arith

piece_of-letter : (whole : Bool) (place b : ℕ) (bs : List ℕ) → is_letter b ≡ true
    → piece_of whole place (b ∷ bs) ≡ Ok (word_piece (take_while is_of_word (b ∷ bs)))
unfolding piece_of
piece_of-letter whole place b bs letter = let n = not_blank b (letter_of_word b letter) in rw (n.0, n.1, letter) refl

-- a word
pub piece_of-word : (whole : Bool) (place b : ℕ) (more rest : List ℕ) → is_letter b ≡ true → list_all is_of_word more ≡ true
    → begins_with is_of_word rest ≡ false → piece_of whole place (b ∷ (more ++ rest)) ≡ Ok (word_piece (b ∷ more))
piece_of-word whole place b more rest letter all stop =
    piece_of-letter whole place b (more ++ rest) letter
    ∙ ap (λ s. Ok (word_piece s)) (take_while-append is_of_word (b ∷ more) rest (rw (letter_of_word b letter) all) stop)

piece_of-digit : (whole : Bool) (place b : ℕ) (bs : List ℕ) → is_digit b ≡ true
    → piece_of whole place (b ∷ bs) ≡ number_piece place (take_while is_digit (b ∷ bs))
unfolding piece_of
piece_of-digit whole place b bs digit =
    let n = not_blank b (digit_of_word b digit) in rw (n.0, n.1, digit_no_letter b digit, digit) refl

number_piece-fits : (place : ℕ) (digits : List ℕ) → value_after 0 digits ≤ GREATEST_NUMBER
    → number_piece place digits ≡ Ok (token (length digits) (kind.Number (value_after 0 digits)))
unfolding number_piece
number_piece-fits place digits le = rw (fits (value_after 0 digits) le) refl
  where
    fits : (v : ℕ) → v ≤ GREATEST_NUMBER → nat_le v GREATEST_NUMBER ≡ true
    fits v le = grind arith

-- a number
pub piece_of-number : (whole : Bool) (place b : ℕ) (more rest : List ℕ) → is_digit b ≡ true → list_all is_digit more ≡ true
    → begins_with is_digit rest ≡ false → value_after 0 (b ∷ more) ≤ GREATEST_NUMBER
    → piece_of whole place (b ∷ (more ++ rest)) ≡ Ok (token (length (b ∷ more)) (kind.Number (value_after 0 (b ∷ more))))
piece_of-number whole place b more rest digit all stop le =
    piece_of-digit whole place b (more ++ rest) digit
    ∙ ap (number_piece place) (take_while-append is_digit (b ∷ more) rest (rw digit all) stop) ∙ number_piece-fits place (b ∷ more) le

-- a text, by what its inside gives
pub piece_of-text : (whole : Bool) (place : ℕ) (inside value : List ℕ) (end : ℕ) → text_from whole place (place + 1) [] inside ≡ Ok (value, end)
    → length value ≤ TEXT_LIMIT → piece_of whole place (34 ∷ inside) ≡ Ok (token (end - place) (kind.Text value))
unfolding piece_of text_piece
piece_of-text whole place inside value end is le = rw (is, fits (length value) le) refl
  where
    fits : (v : ℕ) → v ≤ TEXT_LIMIT → nat_le v TEXT_LIMIT ≡ true
    fits v le = grind arith

pub text_from-escape : (whole : Bool) (quote place c : ℕ) (value rest : List ℕ) → is_pair c ≡ true
    → text_from whole quote place value (92 ∷ c ∷ rest) ≡ text_from whole quote (place + 2) (value ++ meaning_of c ∷ []) rest
unfolding text_from
text_from-escape whole quote place c value rest pair = rw pair refl

pub text_from-close : (whole : Bool) (quote place : ℕ) (value rest : List ℕ) → text_from whole quote place value (34 ∷ rest) ≡ Ok (value, place + 1)
unfolding text_from
text_from-close whole quote place value [] = refl
text_from-close whole quote place value (c ∷ rest) = refl

-- no symbol of two or three bytes begins with this byte and what follows it
abbrev pub IsAlone : ℕ → List ℕ → Type 0
IsAlone a [] = ⊤
IsAlone a (b ∷ more) = (two_byte_symbol a b ≡ None) × (nat_eq a 37 ≡ false)

pub symbol_of-one : (a : ℕ) (rest : List ℕ) (s : Symbol) → one_byte_symbol a ≡ Some s → IsAlone a rest → symbol_of (a ∷ rest) ≡ Some (s, 1)
unfolding symbol_of
symbol_of-one a [] s is alone = rw is refl
symbol_of-one a (b ∷ []) s is alone = rw (alone.0, is) refl
symbol_of-one a (b ∷ c ∷ more) s is alone = rw (alone.0, alone.1, is) refl

pub symbol_of-two : (a b : ℕ) (rest : List ℕ) (s : Symbol) → two_byte_symbol a b ≡ Some s → nat_eq b 47 ≡ false → symbol_of (a ∷ b ∷ rest) ≡ Some (s, 2)
unfolding symbol_of
symbol_of-two a b [] s is slash = rw is refl
symbol_of-two a b (c ∷ more) s is slash = each (nat_eq a 37)
  where
    each : (t : Bool) → sized_or (if t && nat_eq b 47 && nat_eq c 37 then Some symbol.Quotient else None) 3
        (sized_or (two_byte_symbol a b) 2 (sized_or (one_byte_symbol a) 1 None)) ≡ Some (s, 2)
    each true = rw (slash, is) refl
    each false = rw is refl

-- a symbol, by its first byte
pub piece_of-symbol : (whole : Bool) (place b size : ℕ) (bs : List ℕ) (s : Symbol) → is_blank b ≡ false → nat_eq b 35 ≡ false → is_letter b ≡ false
    → is_digit b ≡ false → nat_eq b 34 ≡ false → symbol_of (b ∷ bs) ≡ Some (s, size)
    → piece_of whole place (b ∷ bs) ≡ Ok (token size (kind.Symbol s))
unfolding piece_of symbol_piece
piece_of-symbol whole place b size bs s blank hash letter digit quote is = rw (blank, hash, letter, digit, quote, is) refl
