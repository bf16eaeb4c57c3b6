-- Reading tokens from left to right, and the parts of the grammar that are one token.
--
-- The grammar is predictive: at each choice, option and repetition the next token decides. A part that reads gives
-- what it read and the tokens that are left, or the first refusal from the left: a sequence is refused where its first
-- part that doesn't match is refused.
use Rattle.std.specs.Prelude.{ℕ, zero, suc, Bool, true, false, List, [], ◌∷◌, length, Option, Some, None, Result, Ok, Err}
use Rattle.rx_value.specs.Results.{choose, ◌>>=◌}
use Rattle.app_tokens.specs.declared.token.Token.{Token}
use Rattle.app_tokens.specs.declared.token.Kind.{Kind}
use Rattle.app_tokens.specs.declared.token.Kind.TheVariants as kind
use Rattle.app_tokens.specs.declared.word.Word.{Word}
use Rattle.app_tokens.specs.declared.symbol.Symbol.{Symbol}
use Rattle.app_tokens.specs.Tokens.{Tokens}
use Rattle.app_tokens.specs.Kind.{is_word, is_symbol}
use Rattle.app_tree.specs.declared.draft_term.Name.{Name}
use Rattle.app_reader.specs.declared.error.ReadError.{ReadError}
use Rattle.app_reader.specs.declared.error.ReadError.TheVariants as error

-- what a part reads from the tokens that are left, and what is left after it
abbrev pub Reads : Type 0 → Type 0
Reads A = Tokens → Result (A × Tokens) ReadError

-- one of two ways to go on, by whether something is there
abbrev pub choose_some : {A B C : Type 0} → Option A → (A → B → C) → (B → C) → B → C
choose_some (Some a) f g x = f a x
choose_some None f g x = g x

-- what an error refuses; None for want of memory
abbrev pub refusal : ReadError → Option ReadError
refusal (error.Unexpected place) = Some (error.Unexpected place)
refusal (error.TooDeep place) = Some (error.TooDeep place)
refusal error.Memory = None

-- ---- the next token

abbrev pub place_in : List Token → ℕ → ℕ
place_in [] end = end
place_in (t ∷ more) end = t.place

-- where the next token stands, or the text's length where the text ends there
abbrev pub place_of : Tokens → ℕ
place_of s = place_in s.tokens s.end

abbrev pub rest_of : List Token → List Token
rest_of [] = []
rest_of (t ∷ more) = more

-- what is left after the next token
abbrev pub skip : Tokens → Tokens
skip s = record s { tokens = rest_of s.tokens }

abbrev pub is_of_first : (Kind → Bool) → List Token → Bool
is_of_first test [] = false
is_of_first test (t ∷ more) = test t.kind

abbrev pub is_word_next : Word → Tokens → Bool
is_word_next w s = is_of_first (is_word w) s.tokens

abbrev pub is_symbol_next : Symbol → Tokens → Bool
is_symbol_next x s = is_of_first (is_symbol x) s.tokens

abbrev pub is_name : Kind → Bool
is_name kind.Name = true
is_name (kind.Word w) = false
is_name (kind.Number n) = false
is_name (kind.Text t) = false
is_name (kind.Symbol x) = false

abbrev pub is_name_next : Tokens → Bool
is_name_next s = is_of_first is_name s.tokens

abbrev pub is_text : Kind → Bool
is_text (kind.Text t) = true
is_text kind.Name = false
is_text (kind.Word w) = false
is_text (kind.Number n) = false
is_text (kind.Symbol x) = false

abbrev pub is_text_next : Tokens → Bool
is_text_next s = is_of_first is_text s.tokens

abbrev pub is_some_in : List Token → Bool
is_some_in [] = false
is_some_in (t ∷ more) = true

-- the text goes on
abbrev pub is_more : Tokens → Bool
is_more s = is_some_in s.tokens

abbrev pub word_of : Kind → Option Word
word_of (kind.Word w) = Some w
word_of kind.Name = None
word_of (kind.Number n) = None
word_of (kind.Text t) = None
word_of (kind.Symbol x) = None

abbrev pub word_in : List Token → Option Word
word_in [] = None
word_in (t ∷ more) = word_of t.kind

-- the reserved word that stands next
abbrev pub next_word : Tokens → Option Word
next_word s = word_in s.tokens

abbrev pub symbol_of : Kind → Option Symbol
symbol_of (kind.Symbol x) = Some x
symbol_of kind.Name = None
symbol_of (kind.Word w) = None
symbol_of (kind.Number n) = None
symbol_of (kind.Text t) = None

abbrev pub symbol_in : List Token → Option Symbol
symbol_in [] = None
symbol_in (t ∷ more) = symbol_of t.kind

-- the symbol that stands next
abbrev pub next_symbol : Tokens → Option Symbol
next_symbol s = symbol_in s.tokens

-- ---- refusals, where the next token stands

abbrev pub unexpected : {A : Type 0} → Tokens → Result A ReadError
unexpected s = Err (error.Unexpected (place_of s))

abbrev pub too_deep : {A : Type 0} → Tokens → Result A ReadError
too_deep s = Err (error.TooDeep (place_of s))

-- ---- single tokens that are asked for

unfoldable pub word_at : Word → Reads (Unit {0})
word_at w s = choose (is_word_next w s) (λ t. Ok (tt, skip t)) unexpected s

unfoldable pub symbol_at : Symbol → Reads (Unit {0})
symbol_at x s = choose (is_symbol_next x s) (λ t. Ok (tt, skip t)) unexpected s

abbrev pub name_in : List Token → ℕ → Result (Name × Tokens) ReadError
name_in [] end = Err (error.Unexpected end)
name_in (t ∷ more) end =
    choose (is_name t.kind) (λ rest. Ok (record { text = t.spelling; place = t.place }, record { tokens = rest; end = end }))
    (λ rest. Err (error.Unexpected t.place)) more

-- a name, as it is spelled, with its place
unfoldable pub name_at : Reads Name
name_at s = name_in s.tokens s.end

abbrev pub number_and_rest : Kind → ℕ → List Token → ℕ → Result (ℕ × Tokens) ReadError
number_and_rest (kind.Number n) place more end = Ok (n, record { tokens = more; end = end })
number_and_rest kind.Name place more end = Err (error.Unexpected place)
number_and_rest (kind.Word w) place more end = Err (error.Unexpected place)
number_and_rest (kind.Text t) place more end = Err (error.Unexpected place)
number_and_rest (kind.Symbol x) place more end = Err (error.Unexpected place)

abbrev pub number_in : List Token → ℕ → Result (ℕ × Tokens) ReadError
number_in [] end = Err (error.Unexpected end)
number_in (t ∷ more) end = number_and_rest t.kind t.place more end

-- a number without a sign
unfoldable pub number_at : Reads ℕ
number_at s = number_in s.tokens s.end

abbrev pub text_and_rest : Kind → ℕ → List Token → ℕ → Result (List ℕ × Tokens) ReadError
text_and_rest (kind.Text t) place more end = Ok (t, record { tokens = more; end = end })
text_and_rest kind.Name place more end = Err (error.Unexpected place)
text_and_rest (kind.Word w) place more end = Err (error.Unexpected place)
text_and_rest (kind.Number n) place more end = Err (error.Unexpected place)
text_and_rest (kind.Symbol x) place more end = Err (error.Unexpected place)

abbrev pub text_in : List Token → ℕ → Result (List ℕ × Tokens) ReadError
text_in [] end = Err (error.Unexpected end)
text_in (t ∷ more) end = text_and_rest t.kind t.place more end

-- a text, as the bytes that it stands for
unfoldable pub text_at : Reads (List ℕ)
text_at s = text_in s.tokens s.end

-- ---- repetitions

-- a step again and again, while the test holds
unfoldable pub turns_of : {B : Type 0} → ℕ → (B → Bool) → (B → Result B ReadError) → B → Result B ReadError
turns_of zero test step b = Ok b
turns_of (suc n) test step b = choose (test b) (λ c. step c >>= λ d. turns_of n test step d) (λ c. Ok c) b

-- the same, as long as it may take: each step takes a token at least, so that one turn more than there are tokens is
-- never reached
abbrev pub while_next : {B : Type 0} → (B → Tokens) → (B → Bool) → (B → Result B ReadError) → B → Result B ReadError
while_next left test step b = turns_of (suc (length (left b).tokens)) test step b
