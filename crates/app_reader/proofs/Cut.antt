-- The tokens that are cut from a file's bytes are such as its names, numbers and texts can be.
use Rattle.std.proofs.Common.{◌≡◌, ℕ, zero, suc, ◌+◌, ◌-◌, ◌<◌, Bool, true, false, cond, ◌&&◌, ◌||◌, List, [], ◌∷◌, ◌++◌, length, take, drop, Result, Ok, Err, Option, Some, None, refl, sym, ◌∙◌, ap, subst, arith, length-drop}
use Rattle.std.proofs.lemmas.Bool.{and_from}
use Rattle.std.specs.Prelude.{nat_eq, nat_lt, nat_le, take_while, ◌==◌, if◌then◌else◌}
use Rattle.std.specs.List.{list_all}
use Rattle.std.specs.Str.{byte, IsUtf8, is_utf8}
use Rattle.std.specs.Str.Lossy.{utf8_valid_len, valid_len_up_to}
use Rattle.std.proofs.lemmas.List.Sums.{take_while-cons}
use Rattle.std.proofs.lemmas.Str.{IsUtf8-drop, IsUtf8-nil, IsUtf8-from_is_utf8, is_utf8-from_IsUtf8, IsCharBoundary-after_ascii}
use Rattle.app_tokens.specs.declared.token.Token.{Token}
use Rattle.app_tokens.specs.declared.token.Kind.{Kind}
use Rattle.app_tokens.specs.declared.token.Kind.TheVariants as kind
use Rattle.app_tokens.specs.declared.word.Word.{Word}
use Rattle.app_tokens.specs.declared.symbol.Symbol.{Symbol}
use Rattle.app_tokens.specs.declared.piece.Piece.{Piece}
use Rattle.app_tokens.specs.declared.error.TokenError.{TokenError}
use Rattle.app_tokens.specs.declared.error.TokenError.TheVariants.{BadByte}
use Rattle.app_tokens.specs.Tokens.{Tokens}
use Rattle.app_tokens.specs.Word.{word_of}
use Rattle.app_tokens.specs.Symbol.{symbol_of}
use Rattle.rx_value.specs.Names.{is_letter, is_digit, is_of_word}
use Rattle.rx_value.specs.Results.{choose, ◌>>=◌}
use Rattle.app_tokens.specs.Scan.{is_blank, is_of_comment, gap, token, kind_of_word, word_piece, value_after, number_piece, refusal_at_end, is_pair, meaning_of, text_from, piece_within_limit, text_piece, found_symbol, symbol_piece, piece_of, token_list, tokens_from, tokens_of}
use Rattle.app_tokens.proofs.Digits.{take-length-take_while}
use Rattle.app_tokens.proofs.Names.{word_of-is_reserved}
use Rattle.app_tokens.proofs.Pieces.{IsCut-piece, tokens_from-piece, tokens_from-fails}
use Rattle.app_tokens.proofs.Values.{text_from-utf8}
use Rattle.app_tree.specs.Fits.{is_text_byte}
use Rattle.app_reader.specs.Laws.{kind_fits, tokens_fit, CutTokensFit}
use Rattle.app_reader.proofs.PartsSound.{all_push}

bind_ok : {A B : Type 0} (r : Result A TokenError) (f : A → Result B TokenError) (y : B) → (r >>= f) ≡ Ok y → (x : A) × (r ≡ Ok x) × (f x ≡ Ok y)
bind_ok (Ok x) f y e = (x, refl, e)
bind_ok (Err d) f y e = absurd cc

abbrev done : {A : Type 0} → A → Result A TokenError
done x = Ok x

ok_is : {A : Type 0} (x y : A) → done x ≡ done y → x ≡ y
ok_is x y e = cc

chosen : {A B : Type 0} (b : Bool) (f g : A → Result B TokenError) (x : A) (P : Type 0) {y : B} → choose b f g x ≡ Ok y → (b ≡ true → f x ≡ Ok y → P) → (b ≡ false → g x ≡ Ok y → P) → P
chosen true f g x P e h k = h refl e
chosen false f g x P e h k = k refl e

-- ---- texts

abbrev AreTextBytes : List ℕ → Type 0
AreTextBytes value = list_all is_text_byte value ≡ true

plain_byte : (b : ℕ) → nat_lt b 32 ≡ false → is_text_byte b ≡ true
plain_byte b e = ap (λ t. t || nat_eq b 10) (large b e)
  where
    large : (b : ℕ) → nat_lt b 32 ≡ false → nat_le 32 b ≡ true
    large b e = grind arith

eq_of : (m n : ℕ) → nat_eq m n ≡ true → n ≡ m
eq_of m n e = grind arith

pair_byte : (c : ℕ) → is_pair c ≡ true → is_text_byte (meaning_of c) ≡ true
pair_byte c e = by (nat_eq c (byte "\"")) (nat_eq c (byte "\\")) (nat_eq c (byte "n")) refl refl refl e
  where
    is : ℕ → Type 0
    is c = is_text_byte (meaning_of c) ≡ true

    by : (q s n : Bool) → nat_eq c (byte "\"") ≡ q → nat_eq c (byte "\\") ≡ s → nat_eq c (byte "n") ≡ n → (q || s || n) ≡ true → is_text_byte (meaning_of c) ≡ true
    by true s n iq is_ in_ e = subst (λ c. is_text_byte (meaning_of c) ≡ true) (eq_of c (byte "\"") iq) refl
    by false true n iq is_ in_ e = subst (λ c. is_text_byte (meaning_of c) ≡ true) (eq_of c (byte "\\") is_) refl
    by false false true iq is_ in_ e = subst (λ c. is_text_byte (meaning_of c) ≡ true) (eq_of c (byte "n") in_) refl
    by false false false iq is_ in_ e = absurd cc

cut_off_no : {A : Type 0} (whole : Bool) (quote place : ℕ) (y : A) → refusal_at_end whole quote place ≡ Ok y → ⊥
cut_off_no true quote place y e = cc
cut_off_no false quote place y e = cc

abbrev ends_with : ℕ → List ℕ → Result (List ℕ × ℕ) TokenError
ends_with place v = Ok (v, place + 1)

ended : (place : ℕ) (value : List ℕ) (y : List ℕ × ℕ) → ends_with place value ≡ Ok y → AreTextBytes value → AreTextBytes y.0
ended place value y e h = subst (λ (y : List ℕ × ℕ). AreTextBytes y.0) (ok_is (value, place + 1) y e) h

text_from_fits : (whole : Bool) (quote place : ℕ) (value bytes : List ℕ) (y : List ℕ × ℕ) → AreTextBytes value → text_from whole quote place value bytes ≡ Ok y → AreTextBytes y.0
unfolding text_from
text_from_fits whole quote place value [] y h e = absurd (cut_off_no whole quote place y e)
text_from_fits whole quote place value (b ∷ []) y h e =
    chosen (nat_eq b (byte "\"")) (λ v. Ok (v, place + 1)) (choose (nat_eq b (byte "\\")) (λ v. refusal_at_end whole quote place) (choose (nat_lt b 32) (λ v. Err (BadByte place)) (λ v. text_from whole quote (place + 1) (v ++ b ∷ []) []))) value (AreTextBytes y.0) e
    (λ t f. ended place value y f h)
    (λ t f. chosen (nat_eq b (byte "\\")) (λ v. refusal_at_end whole quote place) (choose (nat_lt b 32) (λ v. Err (BadByte place)) (λ v. text_from whole quote (place + 1) (v ++ b ∷ []) [])) value (AreTextBytes y.0) f
    (λ t f. absurd (cut_off_no whole quote place y f))
    (λ t f. chosen (nat_lt b 32) (λ v. Err (BadByte place)) (λ v. text_from whole quote (place + 1) (v ++ b ∷ []) []) value (AreTextBytes y.0) f
    (λ t f. absurd cc)
    (λ t f. text_from_fits whole quote (place + 1) (value ++ b ∷ []) [] y (all_push is_text_byte value b h (plain_byte b t)) f)))
text_from_fits whole quote place value (b ∷ c ∷ rest) y h e =
    chosen (nat_eq b (byte "\"")) (λ v. Ok (v, place + 1))
    (choose (nat_eq b (byte "\\")) (choose (is_pair c) (λ v. text_from whole quote (place + 2) (v ++ meaning_of c ∷ []) rest) (λ v. Err (BadByte place)))
    (choose (nat_lt b 32) (λ v. Err (BadByte place)) (λ v. text_from whole quote (place + 1) (v ++ b ∷ []) (c ∷ rest)))) value (AreTextBytes y.0) e
    (λ t f. ended place value y f h)
    (λ t f. chosen (nat_eq b (byte "\\")) (choose (is_pair c) (λ v. text_from whole quote (place + 2) (v ++ meaning_of c ∷ []) rest) (λ v. Err (BadByte place)))
    (choose (nat_lt b 32) (λ v. Err (BadByte place)) (λ v. text_from whole quote (place + 1) (v ++ b ∷ []) (c ∷ rest))) value (AreTextBytes y.0) f
    (λ t f. chosen (is_pair c) (λ v. text_from whole quote (place + 2) (v ++ meaning_of c ∷ []) rest) (λ v. Err (BadByte place)) value (AreTextBytes y.0) f
    (λ t f. text_from_fits whole quote (place + 2) (value ++ meaning_of c ∷ []) rest y (all_push is_text_byte value (meaning_of c) h (pair_byte c t)) f)
    (λ t f. absurd cc))
    (λ t f. chosen (nat_lt b 32) (λ v. Err (BadByte place)) (λ v. text_from whole quote (place + 1) (v ++ b ∷ []) (c ∷ rest)) value (AreTextBytes y.0) f
    (λ t f. absurd cc)
    (λ t f. text_from_fits whole quote (place + 1) (value ++ b ∷ []) (c ∷ rest) y (all_push is_text_byte value b h (plain_byte b t)) f)))

-- ---- pieces

-- a piece of so many bytes of these
abbrev option_fits : Option Kind → List ℕ → Bool
option_fits None spelling = true
option_fits (Some k) spelling = kind_fits k spelling

abbrev PieceFits : List ℕ → Piece → Type 0
PieceFits bytes p = option_fits p.kind (take p.size bytes) ≡ true

piece_is : (bytes : List ℕ) (p q : Piece) → done p ≡ done q → PieceFits bytes p → PieceFits bytes q
piece_is bytes p q e h = subst (PieceFits bytes) (ok_is p q e) h

limited_fits : (size : ℕ) (value : List ℕ) (quote : ℕ) (bytes : List ℕ) (p : Piece) → AreTextBytes value → IsUtf8 value → piece_within_limit size value quote ≡ Ok p → PieceFits bytes p
limited_fits size value quote bytes p h utf8 e = by (nat_le (length value) 65536) refl e
  where
    by : (b : Bool) → nat_le (length value) 65536 ≡ b → (if b then Ok (token size (kind.Text value)) else Err (BadByte quote)) ≡ done p → PieceFits bytes p
    by true few e =
        let plain = and_from (nat_le (length value) 65536) (list_all is_text_byte value) few h in
        piece_is bytes (token size (kind.Text value)) p e (and_from (nat_le (length value) 65536 && list_all is_text_byte value) (is_utf8 value) plain (is_utf8-from_IsUtf8 value utf8))
    by false few e = absurd cc

text_piece_fits : (whole : Bool) (quote : ℕ) (inside bytes : List ℕ) (p : Piece) → IsUtf8 inside → text_piece whole quote inside ≡ Ok p → PieceFits bytes p
unfolding text_piece
text_piece_fits whole quote inside bytes p utf8 e =
    let t = bind_ok (text_from whole quote (quote + 1) [] inside) (λ t. piece_within_limit (t.1 - quote) t.0 quote) p e in
    limited_fits (t.0.1 - quote) t.0.0 quote bytes p (text_from_fits whole quote (quote + 1) [] inside t.0 refl t.1) (text_from-utf8 whole quote (quote + 1) inside t.0 utf8 t.1) t.2

number_piece_fits : (place : ℕ) (digits bytes : List ℕ) (p : Piece) → number_piece place digits ≡ Ok p → PieceFits bytes p
unfolding number_piece
number_piece_fits place digits bytes p e =
    chosen (nat_le (value_after 0 digits) 9223372036854775807) (λ ds. Ok (token (length ds) (kind.Number (value_after 0 ds)))) (λ ds. Err (BadByte place)) digits (PieceFits bytes p) e
    (λ t f. piece_is bytes (token (length digits) (kind.Number (value_after 0 digits))) p f t) (λ t f. absurd cc)

symbol_piece_fits : (place : ℕ) (bytes : List ℕ) (p : Piece) → symbol_piece place bytes ≡ Ok p → PieceFits bytes p
unfolding symbol_piece
symbol_piece_fits place bytes p e = by (symbol_of bytes) e
  where
    by : (o : Option (Symbol × ℕ)) → found_symbol place o ≡ Ok p → PieceFits bytes p
    by None e = absurd cc
    by (Some s) e = piece_is bytes (token s.1 (kind.Symbol s.0)) p e refl

all_taken : (test : ℕ → Bool) (bytes : List ℕ) → list_all test (take_while test bytes) ≡ true
all_taken test [] = refl
all_taken test (b ∷ bs) = rw (take_while-cons test b bs) (each (test b) refl (all_taken test bs))
  where
    each : (c : Bool) → test b ≡ c → list_all test (take_while test bs) ≡ true → list_all test (cond c (b ∷ take_while test bs) []) ≡ true
    each true is rest = rw is rest
    each false is rest = refl

-- a word that isn't reserved is a name
word_fits : (b : ℕ) (more : List ℕ) (o : Option Word) → word_of (b ∷ more) ≡ o → is_letter b ≡ true → list_all is_of_word more ≡ true → kind_fits (kind_of_word o) (b ∷ more) ≡ true
word_fits b more None free letter all = rw (letter, all, sym (word_of-is_reserved (b ∷ more)), free) refl
word_fits b more (Some w) free letter all = refl

word_piece_fits : (b : ℕ) (bs : List ℕ) → is_letter b ≡ true → PieceFits (b ∷ bs) (word_piece (take_while is_of_word (b ∷ bs)))
unfolding word_piece
word_piece_fits b bs letter =
    let more = take_while is_of_word bs in
    let is : take_while is_of_word (b ∷ bs) ≡ b ∷ more = rw (take_while-cons is_of_word b bs, letter) refl in
    rw (take-length-take_while is_of_word (b ∷ bs))
    (subst (λ word. kind_fits (kind_of_word (word_of word)) word ≡ true) (sym is)
    (word_fits b more (word_of (b ∷ more)) refl letter (all_taken is_of_word bs)))

-- what stands behind a quote
behind_quote : (b : ℕ) (bs : List ℕ) → IsUtf8 (b ∷ bs) → nat_eq b (byte "\"") ≡ true → IsUtf8 bs
behind_quote b bs utf8 is = IsUtf8-drop (b ∷ bs) 1 utf8 (IsCharBoundary-after_ascii (b ∷ bs) 0 utf8 (omega arith) (low b is))
  where
    low : (b : ℕ) → nat_eq b (byte "\"") ≡ true → b < 128
    low b e = grind arith

piece_fits : (whole : Bool) (place : ℕ) (bytes : List ℕ) (p : Piece) → IsUtf8 bytes → piece_of whole place bytes ≡ Ok p → PieceFits bytes p
unfolding piece_of
piece_fits whole place [] p utf8 e = absurd cc
piece_fits whole place (b ∷ bs) p utf8 e =
    let fits : Type 0 = PieceFits (b ∷ bs) p in
    let symbols : List ℕ → Result Piece TokenError = λ rest. symbol_piece place (b ∷ rest) in
    let texts : List ℕ → Result Piece TokenError = choose (nat_eq b (byte "\"")) (λ rest. text_piece whole place rest) symbols in
    let numbers : List ℕ → Result Piece TokenError = choose (is_digit b) (λ rest. number_piece place (take_while is_digit (b ∷ rest))) texts in
    let words : List ℕ → Result Piece TokenError = choose (is_letter b) (λ rest. Ok (word_piece (take_while is_of_word (b ∷ rest)))) numbers in
    let comments : List ℕ → Result Piece TokenError = choose (nat_eq b (byte "#")) (λ rest. Ok (gap (length (take_while is_of_comment (b ∷ rest))))) words in
    chosen (is_blank b) (λ rest. Ok (gap 1)) comments bs fits e (λ t f. piece_is (b ∷ bs) (gap 1) p f refl)
    (λ t f. chosen (nat_eq b (byte "#")) (λ rest. Ok (gap (length (take_while is_of_comment (b ∷ rest))))) words bs fits f (λ t f. piece_is (b ∷ bs) (gap (length (take_while is_of_comment (b ∷ bs)))) p f refl)
    (λ t f. chosen (is_letter b) (λ rest. Ok (word_piece (take_while is_of_word (b ∷ rest)))) numbers bs fits f (λ t f. piece_is (b ∷ bs) (word_piece (take_while is_of_word (b ∷ bs))) p f (word_piece_fits b bs t))
    (λ t f. chosen (is_digit b) (λ rest. number_piece place (take_while is_digit (b ∷ rest))) texts bs fits f (λ t f. number_piece_fits place (take_while is_digit (b ∷ bs)) (b ∷ bs) p f)
    (λ t f. chosen (nat_eq b (byte "\"")) (λ rest. text_piece whole place rest) symbols bs fits f (λ t f. text_piece_fits whole place bs (b ∷ bs) p (behind_quote b bs utf8 t) f)
    (λ t f. symbol_piece_fits place (b ∷ bs) p f)))))

-- ---- whole files

listed_fits : (o : Option Kind) (place : ℕ) (spelling : List ℕ) (more : List Token) → option_fits o spelling ≡ true → tokens_fit more ≡ true → tokens_fit (token_list o place spelling ++ more) ≡ true
listed_fits None place spelling more h k = k
listed_fits (Some x) place spelling more h k = and_from (kind_fits x spelling) (tokens_fit more) h k

failed : (r : Result (List Token) TokenError) (e : TokenError) (found : List Token) {P : Type 0} → r ≡ Err e → r ≡ Ok found → P
failed r e found is was = absurd cc

-- the tokens of fewer than n bytes
abbrev Below : ℕ → Bool → Type 0
Below n whole = (place : ℕ) (bytes : List ℕ) (found : List Token) → length bytes < n → IsUtf8 bytes → tokens_from whole 0 place bytes ≡ Ok found → tokens_fit found ≡ true

-- a piece, and the tokens behind it
next_fits : (n : ℕ) (whole : Bool) (place b : ℕ) (bs : List ℕ) (found : List Token) (r : Result Piece TokenError) → Below n whole → length bs < n → IsUtf8 (b ∷ bs)
    → piece_of whole place (b ∷ bs) ≡ r → tokens_from whole 0 place (b ∷ bs) ≡ Ok found → tokens_fit found ≡ true
next_fits n whole place b bs found (Err x) below le utf8 is e = failed (tokens_from whole 0 place (b ∷ bs)) x found (tokens_from-fails whole place (b ∷ bs) x (omega arith) is) e
next_fits n whole place b bs found (Ok p) below le utf8 is e =
    let cut = IsCut-piece whole place (b ∷ bs) p utf8 is in
    let spelling = take p.size (b ∷ bs) in
    let after = drop p.size (b ∷ bs) in
    let m = bind_ok (tokens_from whole 0 (place + p.size) after) (λ more. Ok (token_list p.kind place spelling ++ more)) found
    (sym (tokens_from-piece whole place (b ∷ bs) p cut.some cut.boundary.0 is) ∙ e) in
    let fewer : length after < n = omega (arith, le, cut.some, length-drop p.size (b ∷ bs)) in
    subst (λ ts. tokens_fit ts ≡ true) (ok_is (token_list p.kind place spelling ++ m.0) found m.2)
    (listed_fits p.kind place spelling m.0 (piece_fits whole place (b ∷ bs) p utf8 is)
    (below (place + p.size) after m.0 fewer (IsUtf8-drop (b ∷ bs) p.size utf8 cut.boundary) m.1))

no_more : (whole : Bool) (place : ℕ) (found : List Token) → tokens_from whole 0 place [] ≡ Ok found → tokens_fit found ≡ true
unfolding tokens_from
no_more whole place found e = by whole e
  where
    by : (b : Bool) → (if b then Ok [] else Err (BadByte place)) ≡ done found → tokens_fit found ≡ true
    by true e = subst (λ ts. tokens_fit ts ≡ true) (ok_is [] found e) refl
    by false e = absurd cc

tokens_below : (n : ℕ) (whole : Bool) → Below n whole
tokens_below zero whole place bytes found lt utf8 e = absurd (omega (arith, lt))
tokens_below (suc n) whole place [] found lt utf8 e = no_more whole place found e
tokens_below (suc n) whole place (b ∷ bs) found lt utf8 e = next_fits n whole place b bs found (piece_of whole place (b ∷ bs)) (tokens_below n whole) (omega (arith, lt)) utf8 refl e

pub tokens_from_fits : (whole : Bool) (place : ℕ) (bytes : List ℕ) (found : List Token) → IsUtf8 bytes → tokens_from whole 0 place bytes ≡ Ok found → tokens_fit found ≡ true
tokens_from_fits whole place bytes found utf8 e = tokens_below (suc (length bytes)) whole place bytes found (omega arith) utf8 e

front_utf8 : (bytes : List ℕ) (n : ℕ) → IsUtf8 (take (valid_len_up_to bytes n) bytes)
front_utf8 bytes zero = IsUtf8-nil
front_utf8 bytes (suc n) = by (is_utf8 (take (suc n) bytes)) refl (front_utf8 bytes n)
  where
    by : (b : Bool) → is_utf8 (take (suc n) bytes) ≡ b → IsUtf8 (take (valid_len_up_to bytes n) bytes) → IsUtf8 (take (if b then suc n else valid_len_up_to bytes n) bytes)
    by true is fewer = IsUtf8-from_is_utf8 (take (suc n) bytes) is
    by false is fewer = fewer

-- what stands before the first byte that is no UTF-8
valid_front : (bytes : List ℕ) → IsUtf8 (take (utf8_valid_len bytes) bytes)
unfolding utf8_valid_len
valid_front bytes = front_utf8 bytes (length bytes)

pub cut_tokens_fit : CutTokensFit
unfolding tokens_of
cut_tokens_fit bytes s e =
    let whole : Bool = utf8_valid_len bytes == length bytes in
    let found = bind_ok (tokens_from whole 0 0 (take (utf8_valid_len bytes) bytes)) (λ found. Ok (record { tokens = found; end = length bytes })) s e in
    let made : Tokens = record { tokens = found.0; end = length bytes } in
    subst (λ (s : Tokens). tokens_fit s.tokens ≡ true) (ok_is made s found.2) (tokens_from_fits whole 0 (take (utf8_valid_len bytes) bytes) found.0 (valid_front bytes) found.1)
