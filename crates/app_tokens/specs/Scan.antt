-- How the bytes of an app file are cut into tokens.
--
-- A file is cut from left to right. At each place stands a piece: a blank, a comment, or a token. The first place at
-- which none can stand gives the refusal. Places are counted in bytes from 0. `whole` says whether the bytes end with
-- the file, and not because the next byte is no UTF-8.
use Rattle.std.specs.Prelude.{◌≡◌, ℕ, zero, suc, ◌+◌, ◌-◌, ◌*◌, Bool, true, not, ◌||◌, List, [], ◌∷◌, ◌++◌, length, take, take_while, Option, Some, None, Result, Ok, Err, nat_eq, nat_lt, nat_le, if◌then◌else◌, ◌==◌, EachIndex, IsTrue, slice_index}
use Rattle.std.specs.Str.{byte, IsUtf8}
use Rattle.std.specs.Str.Lossy.{utf8_valid_len}
use Rattle.rx_value.specs.declared.limits.TheConstants.{TEXT_LIMIT, GREATEST_NUMBER}
use Rattle.rx_value.specs.Results.{choose, ◌>>=◌}
use Rattle.rx_value.specs.Names.{is_digit, is_letter, is_of_word}
use Rattle.app_tokens.specs.declared.token.Token.{Token}
use Rattle.app_tokens.specs.declared.token.Kind.{Kind}
use Rattle.app_tokens.specs.declared.token.Kind.TheVariants as kind
use Rattle.app_tokens.specs.declared.symbol.Symbol.{Symbol}
use Rattle.app_tokens.specs.declared.word.Word.{Word}
use Rattle.app_tokens.specs.declared.error.TokenError.{TokenError}
use Rattle.app_tokens.specs.declared.error.TokenError.TheVariants.{BadByte, OpenText, Memory}
use Rattle.app_tokens.specs.Word.{word_of}
use Rattle.app_tokens.specs.Symbol.{symbol_of}
use Rattle.app_tokens.specs.declared.piece.Piece.{Piece}
use Rattle.app_tokens.specs.Tokens.{Tokens}

-- a space, a tab, a line feed or a carriage return
abbrev pub is_blank : ℕ → Bool
is_blank b = nat_eq b 32 || nat_eq b 9 || nat_eq b 10 || nat_eq b 13

-- a byte of a comment, which ends before the next line feed
abbrev pub is_of_comment : ℕ → Bool
is_of_comment b = not (nat_eq b 10)

-- so many bytes that are no token
abbrev pub gap : ℕ → Piece
gap size = record { size = size; kind = None }

-- so many bytes that are a token
abbrev pub token : ℕ → Kind → Piece
token size kind = record { size = size; kind = Some kind }

-- a word that isn't reserved is a name
abbrev pub kind_of_word : Option Word → Kind
kind_of_word None = kind.Name
kind_of_word (Some w) = kind.Word w

-- a word: a reserved one, or a name
unfoldable pub word_piece : List ℕ → Piece
word_piece spelling = token (length spelling) (kind_of_word (word_of spelling))

-- the number that digits spell, behind digits that spell n
abbrev pub value_after : ℕ → List ℕ → ℕ
value_after n [] = n
value_after n (d ∷ digits) = value_after (n * 10 + (d - byte "0")) digits

-- each byte is a digit
abbrev pub AreDigits : List ℕ → Type 0
AreDigits digits = EachIndex digits (λ i. IsTrue (is_digit (slice_index digits i)))

-- a number, which may be at most 9,223,372,036,854,775,807
unfoldable pub number_piece : ℕ → List ℕ → Result Piece TokenError
number_piece place digits =
    choose (nat_le (value_after 0 digits) GREATEST_NUMBER)
    (λ ds. Ok (token (length ds) (kind.Number (value_after 0 ds)))) (λ ds. Err (BadByte place)) digits

-- the bytes end inside a text: the text stays open, unless they end because the next byte is no UTF-8
abbrev pub refusal_at_end : {A : Type 0} → Bool → ℕ → ℕ → Result A TokenError
refusal_at_end whole quote place = if whole then Err (OpenText quote) else Err (BadByte place)

-- a byte that makes a pair with a backslash before it
abbrev pub is_pair : ℕ → Bool
is_pair c = nat_eq c (byte "\"") || nat_eq c (byte "\\") || nat_eq c (byte "n")

-- what a pair stands for: a line feed, or its second byte itself
abbrev pub meaning_of : ℕ → ℕ
meaning_of c = if nat_eq c (byte "n") then 10 else c

-- a text from a place behind its opening quote, with the value so far: the whole value, and the place behind the
-- closing quote
unfoldable pub text_from : Bool → ℕ → ℕ → List ℕ → List ℕ → Result (List ℕ × ℕ) TokenError
text_from whole quote place value [] = refusal_at_end whole quote place
text_from whole quote place value (b ∷ []) =
    choose (nat_eq b (byte "\"")) (λ v. Ok (v, place + 1))
    (choose (nat_eq b (byte "\\")) (λ v. refusal_at_end whole quote place)
    (choose (nat_lt b 32) (λ v. Err (BadByte place))
    (λ v. text_from whole quote (place + 1) (v ++ b ∷ []) []))) value
text_from whole quote place value (b ∷ c ∷ rest) =
    choose (nat_eq b (byte "\"")) (λ v. Ok (v, place + 1))
    (choose (nat_eq b (byte "\\"))
    (choose (is_pair c) (λ v. text_from whole quote (place + 2) (v ++ meaning_of c ∷ []) rest)
    (λ v. Err (BadByte place)))
    (choose (nat_lt b 32) (λ v. Err (BadByte place))
    (λ v. text_from whole quote (place + 1) (v ++ b ∷ []) (c ∷ rest)))) value

-- a whole text of so many bytes, whose value may have at most 65,536 bytes
abbrev pub piece_within_limit : ℕ → List ℕ → ℕ → Result Piece TokenError
piece_within_limit size value quote =
    if nat_le (length value) TEXT_LIMIT then Ok (token size (kind.Text value)) else Err (BadByte quote)

-- the text that opens at a quote, by the bytes behind the quote
unfoldable pub text_piece : Bool → ℕ → List ℕ → Result Piece TokenError
text_piece whole quote inside = text_from whole quote (quote + 1) [] inside >>= λ t. piece_within_limit (t.1 - quote) t.0 quote

-- the symbol that was found at a place, with its length
abbrev pub found_symbol : ℕ → Option (Symbol × ℕ) → Result Piece TokenError
found_symbol place None = Err (BadByte place)
found_symbol place (Some s) = Ok (token s.1 (kind.Symbol s.0))

-- a symbol, the longest first
unfoldable pub symbol_piece : ℕ → List ℕ → Result Piece TokenError
symbol_piece place bytes = found_symbol place (symbol_of bytes)

-- the piece that begins the bytes, which stand at this place
unfoldable pub piece_of : Bool → ℕ → List ℕ → Result Piece TokenError
piece_of whole place [] = Err (BadByte place)
piece_of whole place (b ∷ bs) =
    choose (is_blank b) (λ rest. Ok (gap 1))
    (choose (nat_eq b (byte "#")) (λ rest. Ok (gap (length (take_while is_of_comment (b ∷ rest)))))
    (choose (is_letter b) (λ rest. Ok (word_piece (take_while is_of_word (b ∷ rest))))
    (choose (is_digit b) (λ rest. number_piece place (take_while is_digit (b ∷ rest)))
    (choose (nat_eq b (byte "\"")) (λ rest. text_piece whole place rest)
    (λ rest. symbol_piece place (b ∷ rest)))))) bs

-- a piece at this place with this spelling, as a list of one token, or of none
abbrev pub token_list : Option Kind → ℕ → List ℕ → List Token
token_list None place spelling = []
token_list (Some k) place spelling = record { kind = k; place = place; spelling = spelling } ∷ []

-- the tokens of the bytes, which stand at this place; first so many of them are passed over, as those of the piece
-- before
unfoldable pub tokens_from : Bool → ℕ → ℕ → List ℕ → Result (List Token) TokenError
tokens_from whole skipped place [] = if whole then Ok [] else Err (BadByte place)
tokens_from whole (suc n) place (b ∷ bs) = tokens_from whole n (place + 1) bs
tokens_from whole zero place (b ∷ bs) =
    piece_of whole place (b ∷ bs) >>= λ p.
    tokens_from whole (p.size - 1) (place + 1) bs >>= λ more.
    Ok (token_list p.kind place (take p.size (b ∷ bs)) ++ more)

-- these are the tokens of a text
pub record AreCut (tokens : List Token) : Type 0 where
  pub text : List ℕ
  pub utf8 : IsUtf8 text
  pub cut : tokens_from true 0 0 text ≡ Ok tokens

-- the tokens of a file, or its first refusal: what stands before its first byte that is no UTF-8 is cut into tokens,
-- and that byte is refused if nothing before it is
unfoldable pub tokens_of : List ℕ → Result Tokens TokenError
tokens_of bytes =
    tokens_from (utf8_valid_len bytes == length bytes) 0 0 (take (utf8_valid_len bytes) bytes) >>= λ found.
    Ok (record { tokens = found; end = length bytes })

-- what an error refuses; None for want of memory
abbrev pub refusal : TokenError → Option TokenError
refusal (BadByte place) = Some (BadByte place)
refusal (OpenText place) = Some (OpenText place)
refusal Memory = None
