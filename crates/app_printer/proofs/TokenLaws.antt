-- Single tokens of a canonical text, each before what follows it.
use Rattle.std.proofs.Common.{◌≡◌, ℕ, ◌+◌, ◌-◌, ◌<◌, List, [], ◌∷◌, ◌++◌, length, take, drop, refl, sym, ap, ◌∙◌, arith, Bool, true, false, ◌&&◌, nat_eq, not, ◌||◌, Option, Some, None, Ok, subst, length-append}
use Rattle.std.specs.Prelude.{is_some}
use Rattle.std.specs.List.{list_all}
use Rattle.std.specs.Str.{IsUtf8}
use Rattle.std.proofs.lemmas.Str.{IsUtf8-append, IsUtf8-nil}
use Rattle.std.proofs.Math.Bool.{and-eq-true_iff}
use Rattle.app_tokens.specs.declared.token.Token.{Token}
use Rattle.app_tokens.specs.declared.token.Kind.{Kind}
use Rattle.app_tokens.specs.declared.token.Kind.TheVariants as kind
use Rattle.app_tokens.specs.declared.word.Word.{Word}
use Rattle.app_tokens.specs.declared.symbol.Symbol.{Symbol}
use Rattle.app_tokens.specs.declared.symbol.Symbol.TheVariants as symbol
use Rattle.rx_value.specs.Names.{is_letter, is_digit, is_of_word, is_reserved, is_name}
use Rattle.app_tokens.specs.Scan.{tokens_from, piece_of, token, gap, token_list, is_blank, word_piece, kind_of_word}
use Rattle.app_tokens.specs.Symbol.{one_byte_symbol, two_byte_symbol, symbol_of}
use Rattle.app_tokens.specs.Word.{word_of}
use Rattle.app_tokens.proofs.Names.{word_of-is_reserved}
use Rattle.app_tokens.proofs.Pieces.{joined, tokens_from-piece}
use Rattle.app_tokens.proofs.Again.{begins_with, IsAlone, piece_of-blank, piece_of-word, piece_of-symbol, symbol_of-one}
use Rattle.app_tree.specs.declared.draft_term.Name.{Name}
use Rattle.app_reader.specs.Spelling.{Wanted, of_kind, at_place, named, called, IsWanted, Wording, ends, next, first_way, AreWanted, a_word, a_word_at, a_symbol, a_name}
use Rattle.app_printer.proofs.Utf8.{is_ascii, ascii_utf8, word_utf8, blank_utf8}
use Rattle.app_printer.proofs.Reserved.{word_text, word_of-text, is_spelling, is_spelling-text}

-- the bytes, which stand at this place, are cut into the tokens of the wording
pub record StandsAt (place : ℕ) (bytes : List ℕ) (w : Wording) : Type 0 where
  pub tokens : List Token
  pub cut : tokens_from true 0 place bytes ≡ Ok tokens
  pub wanted : AreWanted (first_way w) tokens

-- the bytes that end a text of so many bytes are UTF-8, and are cut so
pub record Stands (total : ℕ) (bytes : List ℕ) (w : Wording) : Type 0 where
  pub utf8 : IsUtf8 bytes
  pub at : (place : ℕ) → place + length bytes ≡ total → StandsAt place bytes w

-- the place of the bytes that end a text
abbrev pub place_of : ℕ → List ℕ → ℕ
place_of total bytes = total - length bytes

take-front : (s rest : List ℕ) → take (length s) (s ++ rest) ≡ s
take-front [] rest = refl
take-front (b ∷ s) rest = ap (λ l. b ∷ l) (take-front s rest)

drop-front : (s rest : List ℕ) → drop (length s) (s ++ rest) ≡ rest
drop-front [] rest = refl
drop-front (b ∷ s) rest = drop-front s rest

-- nothing is left
pub Stands-end : (total : ℕ) → Stands total [] ends
unfolding tokens_from
Stands-end total = record { utf8 = IsUtf8-nil; at = λ place is. record { tokens = []; cut = refl; wanted = tt } }

-- a blank
pub Stands-blank : (total b : ℕ) (rest : List ℕ) (w : Wording) → is_blank b ≡ true → Stands total rest w → Stands total (b ∷ rest) w
Stands-blank total b rest w blank behind = record {
  utf8 = IsUtf8-append (b ∷ []) rest (blank_utf8 b blank) behind.utf8;
  at = λ place is.
      let after = behind.at (place + 1) (omega arith) in
      record {
        tokens = after.tokens;
        cut = tokens_from-piece true place (b ∷ rest) (gap 1) (omega arith) (omega arith) (piece_of-blank true place b rest blank)
            ∙ ap (joined []) after.cut;
        wanted = after.wanted;
      };
}

-- a token of this kind and spelling
pub Stands-token : (total : ℕ) (s rest : List ℕ) (k : Kind) (one : Wanted) (w : Wording) → 0 < length s → IsUtf8 s
    → ((place : ℕ) → piece_of true place (s ++ rest) ≡ Ok (token (length s) k))
    → IsWanted one (record { kind = k; place = place_of total (s ++ rest); spelling = s })
    → Stands total rest w → Stands total (s ++ rest) (next one w)
Stands-token total s rest k one w some utf8 piece fits behind = record {
  utf8 = IsUtf8-append s rest utf8 behind.utf8;
  at = λ place is.
      let after = behind.at (place + length s) (omega (arith, length-append s rest)) in
      let here : place ≡ place_of total (s ++ rest) = omega arith in
      let whole : length (s ++ rest) ≡ length s + length rest = length-append s rest in
      let P : List ℕ → Type 0 = λ l. joined (token_list (Some k) place l) (tokens_from true 0 (place + length s) (drop (length s) (s ++ rest)))
      ≡ Ok (record { kind = k; place = place; spelling = s } ∷ after.tokens) in
      let Q : List ℕ → Type 0 = λ l. joined (token_list (Some k) place s) (tokens_from true 0 (place + length s) l)
      ≡ Ok (record { kind = k; place = place; spelling = s } ∷ after.tokens) in
      let R : ℕ → Type 0 = λ p. IsWanted one (record { kind = k; place = p; spelling = s }) in
      record {
        tokens = record { kind = k; place = place; spelling = s } ∷ after.tokens;
        cut = tokens_from-piece true place (s ++ rest) (token (length s) k) some (omega arith) (piece place)
            ∙ subst P (sym (take-front s rest)) (subst Q (sym (drop-front s rest)) (ap (joined (token_list (Some k) place s)) after.cut));
        wanted = (subst R (sym here) fits, after.wanted);
      };
}

-- ---- words and names

word_piece-is : (s : List ℕ) (k : Kind) → kind_of_word (word_of s) ≡ k → word_piece s ≡ token (length s) k
unfolding word_piece
word_piece-is s k is = ap (token (length s)) is

-- a word of this kind, whose spelling ends there
pub Stands-spelling : (total : ℕ) (s rest : List ℕ) (k : Kind) (one : Wanted) (w : Wording) → is_spelling s ≡ true → kind_of_word (word_of s) ≡ k
    → begins_with is_of_word rest ≡ false → IsWanted one (record { kind = k; place = place_of total (s ++ rest); spelling = s })
    → Stands total rest w → Stands total (s ++ rest) (next one w)
Stands-spelling total [] rest k one w spelt is stop fits behind = cc
Stands-spelling total (b ∷ bs) rest k one w spelt is stop fits behind =
    let h = (and-eq-true_iff (is_letter b) (list_all is_of_word bs)).0 spelt in
    Stands-token total (b ∷ bs) rest k one w (omega arith) (word_utf8 b bs h.0 h.1)
    (λ place. piece_of-word true place b bs rest h.0 h.1 stop ∙ ap Ok (word_piece-is (b ∷ bs) k is)) fits behind

-- a reserved word
pub Stands-word : (total : ℕ) (x : Word) (rest : List ℕ) (w : Wording) → begins_with is_of_word rest ≡ false
    → Stands total rest w → Stands total (word_text x ++ rest) (a_word x w)
Stands-word total x rest w stop behind =
    Stands-spelling total (word_text x) rest (kind.Word x) (of_kind (kind.Word x)) w (is_spelling-text x) (ap kind_of_word (word_of-text x)) stop refl behind

-- a reserved word whose place is told
pub Stands-word_at : (total : ℕ) (x : Word) (rest : List ℕ) (w : Wording) → begins_with is_of_word rest ≡ false
    → Stands total rest w → Stands total (word_text x ++ rest) (a_word_at x (place_of total (word_text x ++ rest)) w)
Stands-word_at total x rest w stop behind =
    Stands-spelling total (word_text x) rest (kind.Word x) (at_place (kind.Word x) (place_of total (word_text x ++ rest))) w
    (is_spelling-text x) (ap kind_of_word (word_of-text x)) stop (refl, refl) behind

free : (o : Option Word) → not (is_some o) ≡ true → kind_of_word o ≡ kind.Name
free None e = refl
free (Some x) e = cc

name_spelling : (n : List ℕ) → is_name n ≡ true → (is_spelling n ≡ true) × (kind_of_word (word_of n) ≡ kind.Name)
name_spelling [] e = cc
name_spelling (b ∷ bs) e =
    let h = (and-eq-true_iff (is_letter b && list_all is_of_word bs) (not (is_reserved (b ∷ bs)))).0 e in
    (h.0, free (word_of (b ∷ bs)) (ap not (word_of-is_reserved (b ∷ bs)) ∙ h.1))

-- a name where it stands
abbrev pub name_there : ℕ → List ℕ → List ℕ → Name
name_there total n rest = record { text = n; place = place_of total (n ++ rest) }

pub Stands-name : (total : ℕ) (n rest : List ℕ) (w : Wording) → is_name n ≡ true → begins_with is_of_word rest ≡ false
    → Stands total rest w → Stands total (n ++ rest) (a_name (name_there total n rest) w)
Stands-name total n rest w is stop behind =
    let h = name_spelling n is in
    Stands-spelling total n rest kind.Name (named (name_there total n rest)) w h.0 h.1 stop
    (record { is_name = refl; is_spelled = refl; is_there = refl }) behind

pub Stands-called : (total : ℕ) (n rest : List ℕ) (w : Wording) → is_name n ≡ true → begins_with is_of_word rest ≡ false
    → Stands total rest w → Stands total (n ++ rest) (next (called (place_of total (n ++ rest)) (name_there total n rest)) w)
Stands-called total n rest w is stop behind =
    let h = name_spelling n is in
    Stands-spelling total n rest kind.Name (called (place_of total (n ++ rest)) (name_there total n rest)) w h.0 h.1 stop
    (record { is_name = refl; is_spelled = refl; is_there = refl }, refl) behind

-- ---- symbols

-- bytes that begin no other token
abbrev pub begins_symbol : ℕ → Bool
begins_symbol b = not (is_blank b || nat_eq b 35 || is_letter b || is_digit b || nat_eq b 34)

none_true : (a b c d e : Bool) → not (a || b || c || d || e) ≡ true → (a ≡ false) × (b ≡ false) × (c ≡ false) × (d ≡ false) × (e ≡ false)
none_true true b c d e h = cc
none_true false true c d e h = cc
none_true false false true d e h = cc
none_true false false false true e h = cc
none_true false false false false true h = cc
none_true false false false false false h = (refl, refl, refl, refl, refl)

-- a symbol that is found at the bytes' beginning
pub Stands-symbol : (total : ℕ) (b : ℕ) (bs rest : List ℕ) (x : Symbol) (w : Wording) → begins_symbol b ≡ true → is_ascii (b ∷ bs) ≡ true
    → symbol_of ((b ∷ bs) ++ rest) ≡ Some (x, length (b ∷ bs)) → Stands total rest w → Stands total ((b ∷ bs) ++ rest) (a_symbol x w)
Stands-symbol total b bs rest x w begins ascii is behind =
    let n = none_true (is_blank b) (nat_eq b 35) (is_letter b) (is_digit b) (nat_eq b 34) begins in
    Stands-token total (b ∷ bs) rest (kind.Symbol x) (of_kind (kind.Symbol x)) w (omega arith) (ascii_utf8 (b ∷ bs) ascii)
    (λ place. piece_of-symbol true place b (length (b ∷ bs)) (bs ++ rest) x n.0 n.1 n.2 n.3 n.4 is) refl behind

alone : (b : ℕ) (rest : List ℕ) → ((c : ℕ) → two_byte_symbol b c ≡ None) → nat_eq b 37 ≡ false → IsAlone b rest
alone b [] two other = tt
alone b (c ∷ more) two other = (two c, other)

-- a symbol of one byte with which no longer one begins
single : (total b : ℕ) (rest : List ℕ) (x : Symbol) (w : Wording) → begins_symbol b ≡ true → is_ascii (b ∷ []) ≡ true → one_byte_symbol b ≡ Some x
    → ((c : ℕ) → two_byte_symbol b c ≡ None) → nat_eq b 37 ≡ false → Stands total rest w → Stands total (b ∷ rest) (a_symbol x w)
single total b rest x w begins ascii one two other behind =
    Stands-symbol total b [] rest x w begins ascii (symbol_of-one b rest x one (alone b rest two other)) behind

pub Stands-open : (total : ℕ) (rest : List ℕ) (w : Wording) → Stands total rest w → Stands total (40 ∷ rest) (a_symbol symbol.Open w)
Stands-open total rest w = single total 40 rest symbol.Open w refl refl refl (λ c. refl) refl

pub Stands-close : (total : ℕ) (rest : List ℕ) (w : Wording) → Stands total rest w → Stands total (41 ∷ rest) (a_symbol symbol.Close w)
Stands-close total rest w = single total 41 rest symbol.Close w refl refl refl (λ c. refl) refl

pub Stands-open_brace : (total : ℕ) (rest : List ℕ) (w : Wording) → Stands total rest w → Stands total (123 ∷ rest) (a_symbol symbol.OpenBrace w)
Stands-open_brace total rest w = single total 123 rest symbol.OpenBrace w refl refl refl (λ c. refl) refl

pub Stands-close_brace : (total : ℕ) (rest : List ℕ) (w : Wording) → Stands total rest w → Stands total (125 ∷ rest) (a_symbol symbol.CloseBrace w)
Stands-close_brace total rest w = single total 125 rest symbol.CloseBrace w refl refl refl (λ c. refl) refl

pub Stands-comma : (total : ℕ) (rest : List ℕ) (w : Wording) → Stands total rest w → Stands total (44 ∷ rest) (a_symbol symbol.Comma w)
Stands-comma total rest w = single total 44 rest symbol.Comma w refl refl refl (λ c. refl) refl

pub Stands-semicolon : (total : ℕ) (rest : List ℕ) (w : Wording) → Stands total rest w → Stands total (59 ∷ rest) (a_symbol symbol.Semicolon w)
Stands-semicolon total rest w = single total 59 rest symbol.Semicolon w refl refl refl (λ c. refl) refl

pub Stands-dollar : (total : ℕ) (rest : List ℕ) (w : Wording) → Stands total rest w → Stands total (36 ∷ rest) (a_symbol symbol.Dollar w)
Stands-dollar total rest w = single total 36 rest symbol.Dollar w refl refl refl (λ c. refl) refl

pub Stands-minus : (total : ℕ) (rest : List ℕ) (w : Wording) → Stands total rest w → Stands total (45 ∷ rest) (a_symbol symbol.Minus w)
Stands-minus total rest w = single total 45 rest symbol.Minus w refl refl refl (λ c. refl) refl

-- no `=` follows the sign
not_alone : (rest : List ℕ) → begins_with (λ c. nat_eq c 61) rest ≡ false → IsAlone 33 rest
not_alone [] other = tt
not_alone (c ∷ more) other = (rw other refl, refl)

pub Stands-not : (total : ℕ) (rest : List ℕ) (w : Wording) → begins_with (λ c. nat_eq c 61) rest ≡ false
    → Stands total rest w → Stands total (33 ∷ rest) (a_symbol symbol.Not w)
Stands-not total rest w other behind =
    Stands-symbol total 33 [] rest symbol.Not w refl refl (symbol_of-one 33 rest symbol.Not refl (not_alone rest other)) behind

-- `=` before a blank
pub Stands-assign : (total : ℕ) (rest : List ℕ) (w : Wording) → Stands total (32 ∷ rest) w → Stands total (61 ∷ 32 ∷ rest) (a_symbol symbol.Assign w)
Stands-assign total rest w behind =
    Stands-symbol total 61 [] (32 ∷ rest) symbol.Assign w refl refl (symbol_of-one 61 (32 ∷ rest) symbol.Assign refl (refl, refl)) behind
