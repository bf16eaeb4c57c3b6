-- Tests of a token's kind.
use Rattle.std.specs.Prelude.{ℕ, Bool, false, nat_eq}
use Rattle.app_tokens.specs.declared.word.Word.{Word}
use Rattle.app_tokens.specs.declared.word.Word.TheVariants as word
use Rattle.app_tokens.specs.declared.symbol.Symbol.{Symbol}
use Rattle.app_tokens.specs.declared.symbol.Symbol.TheVariants as symbol
use Rattle.app_tokens.specs.declared.token.Kind.{Kind}
use Rattle.app_tokens.specs.declared.token.Kind.TheVariants as kind

-- a number for each word
abbrev pub word_code : Word → ℕ
word_code word.Budget = 0
word_code word.Input = 1
word_code word.Value = 2
word_code word.Task = 3
word_code word.Reactive = 4
word_code word.Event = 5
word_code word.Text = 6
word_code word.Plot = 7
word_code word.Observe = 8
word_code word.On = 9
word_code word.Priority = 10
word_code word.IgnoreInit = 11
word_code word.AllowNull = 12
word_code word.WhileHidden = 13
word_code word.Cache = 14
word_code word.Set = 15
word_code word.Invoke = 16
word_code word.Update = 17
word_code word.Freeze = 18
word_code word.Do = 19
word_code word.If = 20
word_code word.Else = 21
word_code word.True = 22
word_code word.False = 23
word_code word.Null = 24
word_code word.C = 25
word_code word.Isolate = 26
word_code word.Req = 27
word_code word.CancelOutput = 28
word_code word.Stop = 29
word_code word.Fold = 30
word_code word.Result = 31
word_code word.Status = 32
word_code word.Width = 33
word_code word.Height = 34
word_code word.Paste0 = 35
word_code word.Length = 36
word_code word.Nchar = 37
word_code word.Item = 38
word_code word.Sum = 39
word_code word.Min = 40
word_code word.Max = 41
word_code word.Seq = 42
word_code word.IsNull = 43
word_code word.AsInt = 44
word_code word.Bars = 45
word_code word.Lines = 46
word_code word.Points = 47

-- a number for each symbol
abbrev pub symbol_code : Symbol → ℕ
symbol_code symbol.Open = 0
symbol_code symbol.Close = 1
symbol_code symbol.OpenBrace = 2
symbol_code symbol.CloseBrace = 3
symbol_code symbol.Comma = 4
symbol_code symbol.Semicolon = 5
symbol_code symbol.Assign = 6
symbol_code symbol.Dollar = 7
symbol_code symbol.Plus = 8
symbol_code symbol.Minus = 9
symbol_code symbol.Star = 10
symbol_code symbol.Quotient = 11
symbol_code symbol.Remainder = 12
symbol_code symbol.Not = 13
symbol_code symbol.Equal = 14
symbol_code symbol.NotEqual = 15
symbol_code symbol.Less = 16
symbol_code symbol.AtMost = 17
symbol_code symbol.Greater = 18
symbol_code symbol.AtLeast = 19
symbol_code symbol.And = 20
symbol_code symbol.Or = 21

abbrev pub same_word : Word → Word → Bool
same_word a b = nat_eq (word_code a) (word_code b)

abbrev pub same_symbol : Symbol → Symbol → Bool
same_symbol a b = nat_eq (symbol_code a) (symbol_code b)

abbrev pub is_word : Word → Kind → Bool
is_word w (kind.Word v) = same_word v w
is_word w kind.Name = false
is_word w (kind.Number n) = false
is_word w (kind.Text t) = false
is_word w (kind.Symbol s) = false

abbrev pub is_symbol : Symbol → Kind → Bool
is_symbol s (kind.Symbol t) = same_symbol t s
is_symbol s (kind.Word w) = false
is_symbol s kind.Name = false
is_symbol s (kind.Number n) = false
is_symbol s (kind.Text t) = false
