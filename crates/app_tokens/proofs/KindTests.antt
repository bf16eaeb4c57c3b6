-- What the tests of a kind say of it.
use Rattle.std.proofs.Common.{◌≡◌, ℕ, List, [], ◌∷◌, refl, sym, ap, ◌∙◌, true, nat_eq, Some, arith}
use Rattle.std.specs.Prelude.{slice_get}
use Rattle.app_tokens.specs.declared.word.Word.{Word}
use Rattle.app_tokens.specs.declared.word.Word.TheVariants as word
use Rattle.app_tokens.specs.declared.symbol.Symbol.{Symbol}
use Rattle.app_tokens.specs.declared.symbol.Symbol.TheVariants as symbol
use Rattle.app_tokens.specs.declared.token.Kind.{Kind}
use Rattle.app_tokens.specs.declared.token.Kind.TheVariants as kind
use Rattle.app_tokens.specs.Word.{words}
use Rattle.app_tokens.specs.Kind.{word_code, symbol_code, same_word, same_symbol, is_word, is_symbol}

word_at : (w : Word) → slice_get words (word_code w) ≡ Some w
word_at word.Budget = refl
word_at word.Input = refl
word_at word.Value = refl
word_at word.Task = refl
word_at word.Reactive = refl
word_at word.Event = refl
word_at word.Text = refl
word_at word.Plot = refl
word_at word.Observe = refl
word_at word.On = refl
word_at word.Priority = refl
word_at word.IgnoreInit = refl
word_at word.AllowNull = refl
word_at word.WhileHidden = refl
word_at word.Cache = refl
word_at word.Set = refl
word_at word.Invoke = refl
word_at word.Update = refl
word_at word.Freeze = refl
word_at word.Do = refl
word_at word.If = refl
word_at word.Else = refl
word_at word.True = refl
word_at word.False = refl
word_at word.Null = refl
word_at word.C = refl
word_at word.Isolate = refl
word_at word.Req = refl
word_at word.CancelOutput = refl
word_at word.Stop = refl
word_at word.Fold = refl
word_at word.Result = refl
word_at word.Status = refl
word_at word.Width = refl
word_at word.Height = refl
word_at word.Paste0 = refl
word_at word.Length = refl
word_at word.Nchar = refl
word_at word.Item = refl
word_at word.Sum = refl
word_at word.Min = refl
word_at word.Max = refl
word_at word.Seq = refl
word_at word.IsNull = refl
word_at word.AsInt = refl
word_at word.Bars = refl
word_at word.Lines = refl
word_at word.Points = refl

every_symbol : List Symbol
every_symbol = symbol.Open ∷ symbol.Close ∷ symbol.OpenBrace ∷ symbol.CloseBrace ∷ symbol.Comma ∷ symbol.Semicolon ∷ symbol.Assign ∷ symbol.Dollar ∷ symbol.Plus ∷ symbol.Minus ∷ symbol.Star ∷ symbol.Quotient ∷ symbol.Remainder ∷ symbol.Not ∷ symbol.Equal ∷ symbol.NotEqual ∷ symbol.Less ∷ symbol.AtMost ∷ symbol.Greater ∷ symbol.AtLeast ∷ symbol.And ∷ symbol.Or ∷ []

symbol_at : (s : Symbol) → slice_get every_symbol (symbol_code s) ≡ Some s
unfolding every_symbol
symbol_at symbol.Open = refl
symbol_at symbol.Close = refl
symbol_at symbol.OpenBrace = refl
symbol_at symbol.CloseBrace = refl
symbol_at symbol.Comma = refl
symbol_at symbol.Semicolon = refl
symbol_at symbol.Assign = refl
symbol_at symbol.Dollar = refl
symbol_at symbol.Plus = refl
symbol_at symbol.Minus = refl
symbol_at symbol.Star = refl
symbol_at symbol.Quotient = refl
symbol_at symbol.Remainder = refl
symbol_at symbol.Not = refl
symbol_at symbol.Equal = refl
symbol_at symbol.NotEqual = refl
symbol_at symbol.Less = refl
symbol_at symbol.AtMost = refl
symbol_at symbol.Greater = refl
symbol_at symbol.AtLeast = refl
symbol_at symbol.And = refl
symbol_at symbol.Or = refl

same_code : (m n : ℕ) → nat_eq m n ≡ true → m ≡ n
same_code m n e = grind arith

pub same_word-is : (a b : Word) → same_word a b ≡ true → a ≡ b
same_word-is a b e =
    let one : Some a ≡ Some b = sym (word_at a) ∙ ap (λ n. slice_get words n) (same_code (word_code a) (word_code b) e) ∙ word_at b in cc

pub same_symbol-is : (a b : Symbol) → same_symbol a b ≡ true → a ≡ b
same_symbol-is a b e =
    let one : Some a ≡ Some b = sym (symbol_at a) ∙ ap (λ n. slice_get every_symbol n) (same_code (symbol_code a) (symbol_code b) e) ∙ symbol_at b in cc

-- a kind that passes the test of a word is that word
pub is_word-is : (w : Word) (k : Kind) → is_word w k ≡ true → k ≡ kind.Word w
is_word-is w (kind.Word v) e = ap kind.Word (same_word-is v w e)
is_word-is w kind.Name e = cc
is_word-is w (kind.Number n) e = cc
is_word-is w (kind.Text t) e = cc
is_word-is w (kind.Symbol s) e = cc

-- and so with a symbol
pub is_symbol-is : (s : Symbol) (k : Kind) → is_symbol s k ≡ true → k ≡ kind.Symbol s
is_symbol-is s (kind.Symbol t) e = ap kind.Symbol (same_symbol-is t s e)
is_symbol-is s (kind.Word w) e = cc
is_symbol-is s kind.Name e = cc
is_symbol-is s (kind.Number n) e = cc
is_symbol-is s (kind.Text t) e = cc
