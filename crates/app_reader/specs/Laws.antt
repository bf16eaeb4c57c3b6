-- The laws of reading, by which a reader of this repository can believe `read_at` without going through its productions.
use Rattle.std.specs.Prelude.{◌≡◌, ℕ, Bool, true, List, Ok, Err}
use Rattle.std.specs.List.{list_all}
use Rattle.rx_value.specs.Names.{is_name}
use Rattle.app_tokens.specs.declared.token.Token.{Token}
use Rattle.app_tokens.specs.declared.token.Kind.{Kind}
use Rattle.app_tokens.specs.declared.token.Kind.TheVariants as kind
use Rattle.app_tokens.specs.Tokens.{Tokens}
use Rattle.app_tokens.specs.Scan.{tokens_of}
use Rattle.app_tree.specs.DraftTree.{DraftShape}
use Rattle.app_tree.specs.Fits.{is_natural, is_text, fits}
use Rattle.app_reader.specs.declared.error.ReadError.{ReadError}
use Rattle.app_reader.specs.Spelling.{IsSpelledBy, AreWanted, spelling, canonical_spelling}
use Rattle.app_reader.specs.Items.{read_at}

-- what a token of a file can be, by its kind and its spelling: a number is at most 9,223,372,036,854,775,807, a text holds
-- at most 65,536 bytes, which are UTF-8 and each of which a text can hold, and a name is a word that isn't reserved
abbrev pub kind_fits : Kind → List ℕ → Bool
kind_fits (kind.Number n) spelling = is_natural n
kind_fits (kind.Text bytes) spelling = is_text bytes
kind_fits kind.Name spelling = is_name spelling
kind_fits (kind.Word w) spelling = true
kind_fits (kind.Symbol x) spelling = true

abbrev pub token_fits : Token → Bool
token_fits t = kind_fits t.kind t.spelling

abbrev pub tokens_fit : List Token → Bool
tokens_fit tokens = list_all token_fits tokens

-- each token that is cut from a file's bytes is such a token
abbrev pub CutTokensFit : Type 0
CutTokensFit = (bytes : List ℕ) (s : Tokens) → tokens_of bytes ≡ Ok s → tokens_fit s.tokens ≡ true

-- what is read is a draft that a text can give, and the tokens are a spelling of it
abbrev pub ReadIsSpelled : Type 0
ReadIsSpelled = (s : Tokens) (draft : DraftShape) → tokens_fit s.tokens ≡ true → read_at s ≡ Ok draft
    → (fits draft ≡ true) × IsSpelledBy (spelling draft) s.tokens

-- each spelling of a draft that a text can give is read as that draft
abbrev pub SpelledIsRead : Type 0
SpelledIsRead = (s : Tokens) (draft : DraftShape) → fits draft ≡ true → IsSpelledBy (spelling draft) s.tokens → read_at s ≡ Ok draft

-- so is the spelling that is printed
abbrev pub CanonicalIsRead : Type 0
CanonicalIsRead = (s : Tokens) (draft : DraftShape) → fits draft ≡ true → AreWanted (canonical_spelling draft) s.tokens → read_at s ≡ Ok draft

-- tokens are a spelling of one draft at most that a text can give
abbrev pub DraftIsOne : Type 0
DraftIsOne = (s : Tokens) (one other : DraftShape) → fits one ≡ true → fits other ≡ true
    → IsSpelledBy (spelling one) s.tokens → IsSpelledBy (spelling other) s.tokens → one ≡ other

-- tokens that are refused are a spelling of none
abbrev pub RefusedIsNone : Type 0
RefusedIsNone = (s : Tokens) (refusal : ReadError) (draft : DraftShape) → read_at s ≡ Err refusal → fits draft ≡ true
    → IsSpelledBy (spelling draft) s.tokens → ⊥
