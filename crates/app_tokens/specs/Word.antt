-- The reserved words.
use Rattle.std.specs.Prelude.{ℕ, List, [], ◌∷◌, Option, Some, None, bytes_eq, map, if◌then◌else◌}
use Rattle.std.specs.List.{zip}
use Rattle.std.specs.Borrow.{Bor}
use Rattle.rx_value.specs.Names.{reserved_words}
use Rattle.app_tokens.specs.declared.word.Word.{Word}
use Rattle.app_tokens.specs.declared.word.Word.TheVariants as word

-- the words, in the order of their spellings
abbrev pub words : List Word
words =
    word.Budget
    ∷ word.Input
    ∷ word.Value
    ∷ word.Task
    ∷ word.Reactive
    ∷ word.Event
    ∷ word.Text
    ∷ word.Plot
    ∷ word.Observe
    ∷ word.On
    ∷ word.Priority
    ∷ word.IgnoreInit
    ∷ word.AllowNull
    ∷ word.WhileHidden
    ∷ word.Cache
    ∷ word.Set
    ∷ word.Invoke
    ∷ word.Update
    ∷ word.Freeze
    ∷ word.Do
    ∷ word.If
    ∷ word.Else
    ∷ word.True
    ∷ word.False
    ∷ word.Null
    ∷ word.C
    ∷ word.Isolate
    ∷ word.Req
    ∷ word.CancelOutput
    ∷ word.Stop
    ∷ word.Fold
    ∷ word.Result
    ∷ word.Status
    ∷ word.Width
    ∷ word.Height
    ∷ word.Paste0
    ∷ word.Length
    ∷ word.Nchar
    ∷ word.Item
    ∷ word.Sum
    ∷ word.Min
    ∷ word.Max
    ∷ word.Seq
    ∷ word.IsNull
    ∷ word.AsInt
    ∷ word.Bars
    ∷ word.Lines
    ∷ word.Points
    ∷ []

-- each reserved word with its spelling
abbrev pub spelled_words : List (List ℕ × Word)
spelled_words = zip reserved_words words

-- the first word of a table that is spelled so
abbrev pub word_in : List (List ℕ × Word) → List ℕ → Option Word
word_in [] spelling = None
word_in (r ∷ more) spelling = if bytes_eq r.0 spelling then Some r.1 else word_in more spelling

-- the reserved word that is spelled so
unfoldable pub word_of : List ℕ → Option Word
word_of spelling = word_in spelled_words spelling

-- the entries of a table of the code
abbrev pub entries : List (Bor (List ℕ) × Word) → List (List ℕ × Word)
entries = map (λ e. (e.0.now, e.1))
