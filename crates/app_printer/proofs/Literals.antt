-- Operators, numbers and texts of a canonical text, each before what follows it.
use Rattle.std.proofs.Common.{◌≡◌, ℕ, ◌+◌, ◌-◌, ◌^◌, ◌≤◌, ◌<◌, List, [], ◌∷◌, ◌++◌, length, refl, sym, ap, ◌∙◌, arith, Bool, true, false, ◌&&◌, nat_eq, nat_le, Result, Ok, append_assoc, append-nil, length-append, rules}
use Rattle.std.specs.List.{list_all}
use Rattle.std.specs.Fmt.{decimal}
use Rattle.std.specs.Str.{is_utf8}
use Rattle.std.proofs.lemmas.Str.{IsUtf8-append, IsUtf8-from_is_utf8}
use Rattle.std.proofs.lemmas.Bool.Decides.{nat_tests}
use Rattle.std.proofs.lemmas.Str.Parse.{IsNumeralModel, numerals_by_fold}
use Rattle.std.proofs.lemmas.Fmt.{digits_decimal, digits_value-decimal, decimal_nonempty}
use Rattle.std.proofs.Math.Bool.{and-eq-true_iff}
use Rattle.rx_value.specs.declared.limits.TheConstants.{TEXT_LIMIT, GREATEST_NUMBER}
use Rattle.app_tokens.specs.declared.token.Kind.TheVariants as kind
use Rattle.app_tokens.specs.declared.symbol.Symbol.TheVariants as symbol
use Rattle.app_tokens.specs.declared.error.TokenError.{TokenError}
use Rattle.rx_value.specs.Names.{is_digit, is_of_word}
use Rattle.app_tokens.specs.Scan.{value_after, text_from, is_pair, meaning_of, piece_of, token}
use Rattle.app_tokens.specs.Symbol.{symbol_of}
use Rattle.app_tokens.specs.inner.Text.{is_plain}
use Rattle.app_tokens.proofs.Again.{begins_with, piece_of-number, piece_of-text, symbol_of-one, text_from-escape, text_from-close}
use Rattle.app_tokens.proofs.Texts.{text_from-plain}
use Rattle.rx_value.specs.declared.operator.BinOp.TheVariants as bin
use Rattle.app_tree.specs.declared.term.Operator.{Operator}
use Rattle.app_tree.specs.declared.term.Operator.TheVariants as operator
use Rattle.app_tree.specs.Fits.{is_natural, is_text_byte, is_text}
use Rattle.app_reader.specs.Spelling.{Wording, of_kind, next, a_number, a_symbol, operator_symbol}
use Rattle.app_printer.specs.Canonical.{operator_text, escaped_byte, escaped, quoted}
use Rattle.app_printer.proofs.Escapes.{escaped_byte-plain}
use Rattle.app_printer.proofs.Utf8.{ascii_utf8, digits_utf8, escaped_utf8}
use Rattle.app_printer.proofs.TokenLaws.{Stands, Stands-token, Stands-symbol}

-- ---- operators before a blank

pub Stands-operator : (total : ℕ) (op : Operator) (rest : List ℕ) (w : Wording) → Stands total (32 ∷ rest) w
    → Stands total (operator_text op ++ 32 ∷ rest) (a_symbol (operator_symbol op) w)
unfolding symbol_of
Stands-operator total operator.Or rest w = Stands-symbol total 124 (124 ∷ []) (32 ∷ rest) symbol.Or w refl refl refl
Stands-operator total operator.And rest w = Stands-symbol total 38 (38 ∷ []) (32 ∷ rest) symbol.And w refl refl refl
Stands-operator total (operator.Strict bin.Add) rest w =
    Stands-symbol total 43 [] (32 ∷ rest) symbol.Plus w refl refl (symbol_of-one 43 (32 ∷ rest) symbol.Plus refl (refl, refl))
Stands-operator total (operator.Strict bin.Subtract) rest w =
    Stands-symbol total 45 [] (32 ∷ rest) symbol.Minus w refl refl (symbol_of-one 45 (32 ∷ rest) symbol.Minus refl (refl, refl))
Stands-operator total (operator.Strict bin.Multiply) rest w =
    Stands-symbol total 42 [] (32 ∷ rest) symbol.Star w refl refl (symbol_of-one 42 (32 ∷ rest) symbol.Star refl (refl, refl))
Stands-operator total (operator.Strict bin.Divide) rest w = Stands-symbol total 37 (47 ∷ 37 ∷ []) (32 ∷ rest) symbol.Quotient w refl refl refl
Stands-operator total (operator.Strict bin.Modulo) rest w = Stands-symbol total 37 (37 ∷ []) (32 ∷ rest) symbol.Remainder w refl refl refl
Stands-operator total (operator.Strict bin.Equal) rest w = Stands-symbol total 61 (61 ∷ []) (32 ∷ rest) symbol.Equal w refl refl refl
Stands-operator total (operator.Strict bin.NotEqual) rest w = Stands-symbol total 33 (61 ∷ []) (32 ∷ rest) symbol.NotEqual w refl refl refl
Stands-operator total (operator.Strict bin.Less) rest w =
    Stands-symbol total 60 [] (32 ∷ rest) symbol.Less w refl refl (symbol_of-one 60 (32 ∷ rest) symbol.Less refl (refl, refl))
Stands-operator total (operator.Strict bin.LessOrEqual) rest w = Stands-symbol total 60 (61 ∷ []) (32 ∷ rest) symbol.AtMost w refl refl refl
Stands-operator total (operator.Strict bin.Greater) rest w =
    Stands-symbol total 62 [] (32 ∷ rest) symbol.Greater w refl refl (symbol_of-one 62 (32 ∷ rest) symbol.Greater refl (refl, refl))
Stands-operator total (operator.Strict bin.GreaterOrEqual) rest w = Stands-symbol total 62 (61 ∷ []) (32 ∷ rest) symbol.AtLeast w refl refl refl

-- ---- numbers

pub numerals : IsNumeralModel (λ ds. list_all is_digit ds ≡ true) (value_after 0)
numerals = numerals_by_fold _ (search rules) value_after (search rules)

pub natural_below : (n : ℕ) → is_natural n ≡ true → (n ≤ GREATEST_NUMBER) × (n < 2 ^ 64)
natural_below n e = grind (arith, nat_tests)

-- what ends a word ends a number
pub ends_number : (rest : List ℕ) → begins_with is_of_word rest ≡ false → begins_with is_digit rest ≡ false
ends_number [] stop = refl
ends_number (b ∷ rest) stop = not_digit b stop
  where
    not_digit : (b : ℕ) → is_of_word b ≡ false → is_digit b ≡ false
    not_digit b e = grind arith

digits : (total n : ℕ) (ds rest : List ℕ) (w : Wording) → list_all is_digit ds ≡ true → 0 < length ds → value_after 0 ds ≡ n → n ≤ GREATEST_NUMBER
    → begins_with is_digit rest ≡ false → Stands total rest w → Stands total (ds ++ rest) (a_number n w)
digits total n [] rest w all some value le stop behind = absurd (omega arith)
digits total n (d ∷ ds) rest w all some value le stop behind =
    let h = (and-eq-true_iff (is_digit d) (list_all is_digit ds)).0 all in
    let small : value_after 0 (d ∷ ds) ≤ GREATEST_NUMBER = omega arith in
    Stands-token total (d ∷ ds) rest (kind.Number n) (of_kind (kind.Number n)) w some (digits_utf8 (d ∷ ds) all)
    (λ place. piece_of-number true place d ds rest h.0 h.1 stop small ∙ ap (λ v. Ok (token (length (d ∷ ds)) (kind.Number v))) value) refl behind

pub Stands-number : (total n : ℕ) (rest : List ℕ) (w : Wording) → is_natural n ≡ true → begins_with is_of_word rest ≡ false
    → Stands total rest w → Stands total (decimal n ++ rest) (a_number n w)
Stands-number total n rest w natural stop behind =
    let below = natural_below n natural in
    digits total n (decimal n) rest w (digits_decimal numerals n below.1) (decimal_nonempty n below.1) (digits_value-decimal numerals n below.1) below.0
    (ends_number rest stop) behind

-- ---- texts

plain : (b : ℕ) → is_text_byte b ≡ true → nat_eq b 34 ≡ false → nat_eq b 92 ≡ false → nat_eq b 10 ≡ false → is_plain b ≡ true
plain b e quote backslash feed = grind (arith, nat_tests)

-- what is read from the rest of an escaped text
abbrev IsRead : ℕ → List ℕ → List ℕ → Type 0
IsRead quote bytes rest =
    (place : ℕ) (value : List ℕ) → text_from true quote place value (escaped bytes ++ 34 ∷ rest) ≡ Ok (value ++ bytes, place + length (escaped bytes) + 1)

joined_value : (value bytes : List ℕ) (b c : ℕ) → c ≡ b → (value ++ c ∷ []) ++ bytes ≡ value ++ b ∷ bytes
joined_value value bytes b c is = append_assoc value (c ∷ []) bytes ∙ ap (λ x. value ++ x ∷ bytes) is

abbrev text_end : List ℕ → ℕ → Result (List ℕ × ℕ) TokenError
text_end value place = Ok (value, place)

ends_same : (p q : ℕ) (v u : List ℕ) → v ≡ u → p ≡ q → text_end v p ≡ text_end u q
ends_same p q v u same there = cc

pair_read : (quote b c : ℕ) (bytes rest : List ℕ) → IsRead quote bytes rest → escaped_byte b ≡ 92 ∷ c ∷ [] → is_pair c ≡ true → meaning_of c ≡ b
    → IsRead quote (b ∷ bytes) rest
pair_read quote b c bytes rest more pair is means place value =
    rw pair (text_from-escape true quote place c value (escaped bytes ++ 34 ∷ rest) is
    ∙ (more (place + 2) (value ++ meaning_of c ∷ []) ∙ ends_same _ _ _ _ (joined_value value bytes b (meaning_of c) means) (omega arith)))

plain_read : (quote b : ℕ) (bytes rest : List ℕ) → IsRead quote bytes rest → escaped_byte b ≡ b ∷ [] → is_plain b ≡ true → IsRead quote (b ∷ bytes) rest
plain_read quote b bytes rest more alone is place value =
    rw alone (text_from-plain true quote place b value (escaped bytes ++ 34 ∷ rest) is
    ∙ (more (place + 1) (value ++ b ∷ []) ∙ ends_same _ _ _ _ (joined_value value bytes b b refl) (omega arith)))

same_number : (b c : ℕ) → nat_eq b c ≡ true → c ≡ b
same_number b c e = grind (arith, nat_tests)

-- the value that is read from an escaped text is the text
escaped-read : (quote : ℕ) (bytes rest : List ℕ) → list_all is_text_byte bytes ≡ true → IsRead quote bytes rest
escaped-read quote [] rest all = λ place value.
    text_from-close true quote place value rest ∙ ends_same _ _ _ _ (sym (append-nil value)) (omega arith)
escaped-read quote (b ∷ bytes) rest all =
    let h = (and-eq-true_iff (is_text_byte b) (list_all is_text_byte bytes)).0 all in
    each (nat_eq b 34) (nat_eq b 92) (nat_eq b 10) refl refl refl h.0 (escaped-read quote bytes rest h.1)
  where
    each : (q s f : Bool) → nat_eq b 34 ≡ q → nat_eq b 92 ≡ s → nat_eq b 10 ≡ f → is_text_byte b ≡ true → IsRead quote bytes rest → IsRead quote (b ∷ bytes) rest
    each true s f quote_is slash_is feed_is fits more = pair_read quote b 34 bytes rest more (rw quote_is refl) refl (same_number b 34 quote_is)
    each false true f quote_is slash_is feed_is fits more =
        pair_read quote b 92 bytes rest more (rw (quote_is, slash_is) refl) refl (same_number b 92 slash_is)
    each false false true quote_is slash_is feed_is fits more =
        pair_read quote b 110 bytes rest more (rw (quote_is, slash_is, feed_is) refl) refl (same_number b 10 feed_is)
    each false false false quote_is slash_is feed_is fits more =
        plain_read quote b bytes rest more (escaped_byte-plain b quote_is slash_is feed_is) (plain b fits quote_is slash_is feed_is)

short : (n : ℕ) → nat_le n TEXT_LIMIT ≡ true → n ≤ TEXT_LIMIT
short n e = grind (arith, nat_tests)

pub Stands-text : (total : ℕ) (bytes rest : List ℕ) (w : Wording) → is_text bytes ≡ true → Stands total rest w
    → Stands total (quoted bytes ++ rest) (next (of_kind (kind.Text bytes)) w)
Stands-text total bytes rest w fits behind =
    let u = (and-eq-true_iff (nat_le (length bytes) TEXT_LIMIT && list_all is_text_byte bytes) (is_utf8 bytes)).0 fits in
    let h = (and-eq-true_iff (nat_le (length bytes) TEXT_LIMIT) (list_all is_text_byte bytes)).0 u.0 in
    let utf8 = IsUtf8-append (34 ∷ []) (escaped bytes ++ 34 ∷ []) (ascii_utf8 (34 ∷ []) refl)
    (IsUtf8-append (escaped bytes) (34 ∷ []) (escaped_utf8 bytes (IsUtf8-from_is_utf8 bytes u.1)) (ascii_utf8 (34 ∷ []) refl)) in
    let size : (place : ℕ) → place + 1 + length (escaped bytes) + 1 - place ≡ length (quoted bytes) =
    λ place. omega (arith, length-append (escaped bytes) (34 ∷ [])) in
    let inside : (escaped bytes ++ 34 ∷ []) ++ rest ≡ escaped bytes ++ 34 ∷ rest = append_assoc (escaped bytes) (34 ∷ []) rest in
    Stands-token total (quoted bytes) rest (kind.Text bytes) (of_kind (kind.Text bytes)) w (omega arith) utf8
    (λ place. ap (λ l. piece_of true place (34 ∷ l)) inside
    ∙ (piece_of-text true place (escaped bytes ++ 34 ∷ rest) bytes (place + 1 + length (escaped bytes) + 1) (escaped-read place bytes rest h.1 (place + 1) []) (short (length bytes) h.0)
    ∙ ap (λ n. Ok (token n (kind.Text bytes))) (size place))) refl behind
