-- The spelling of each reserved word and of each symbol.
use Rattle.std.proofs.Common.{◌≡◌, ℕ, List, [], ◌∷◌, codes, refl, Bool, true, false, ◌&&◌, Some}
use Rattle.std.specs.List.{list_all}
use Rattle.app_tokens.specs.declared.word.Word.{Word}
use Rattle.app_tokens.specs.declared.word.Word.TheVariants as word
use Rattle.app_tokens.specs.Word.{word_of}
use Rattle.rx_value.specs.Names.{is_letter, is_of_word}

abbrev pub word_text : Word → List ℕ
word_text word.Budget = codes "budget"
word_text word.Input = codes "input"
word_text word.Value = codes "value"
word_text word.Task = codes "task"
word_text word.Reactive = codes "reactive"
word_text word.Event = codes "event"
word_text word.Text = codes "text"
word_text word.Plot = codes "plot"
word_text word.Observe = codes "observe"
word_text word.On = codes "on"
word_text word.Priority = codes "priority"
word_text word.IgnoreInit = codes "ignoreInit"
word_text word.AllowNull = codes "allowNull"
word_text word.WhileHidden = codes "whileHidden"
word_text word.Cache = codes "cache"
word_text word.Set = codes "set"
word_text word.Invoke = codes "invoke"
word_text word.Update = codes "update"
word_text word.Freeze = codes "freeze"
word_text word.Do = codes "do"
word_text word.If = codes "if"
word_text word.Else = codes "else"
word_text word.True = codes "TRUE"
word_text word.False = codes "FALSE"
word_text word.Null = codes "NULL"
word_text word.C = codes "c"
word_text word.Isolate = codes "isolate"
word_text word.Req = codes "req"
word_text word.CancelOutput = codes "cancelOutput"
word_text word.Stop = codes "stop"
word_text word.Fold = codes "fold"
word_text word.Result = codes "result"
word_text word.Status = codes "status"
word_text word.Width = codes "width"
word_text word.Height = codes "height"
word_text word.Paste0 = codes "paste0"
word_text word.Length = codes "length"
word_text word.Nchar = codes "nchar"
word_text word.Item = codes "item"
word_text word.Sum = codes "sum"
word_text word.Min = codes "min"
word_text word.Max = codes "max"
word_text word.Seq = codes "seq"
word_text word.IsNull = codes "is_null"
word_text word.AsInt = codes "as_int"
word_text word.Bars = codes "bars"
word_text word.Lines = codes "lines"
word_text word.Points = codes "points"

pub word_of-text : (w : Word) → word_of (word_text w) ≡ Some w
unfolding word_of
word_of-text word.Budget = refl
word_of-text word.Input = refl
word_of-text word.Value = refl
word_of-text word.Task = refl
word_of-text word.Reactive = refl
word_of-text word.Event = refl
word_of-text word.Text = refl
word_of-text word.Plot = refl
word_of-text word.Observe = refl
word_of-text word.On = refl
word_of-text word.Priority = refl
word_of-text word.IgnoreInit = refl
word_of-text word.AllowNull = refl
word_of-text word.WhileHidden = refl
word_of-text word.Cache = refl
word_of-text word.Set = refl
word_of-text word.Invoke = refl
word_of-text word.Update = refl
word_of-text word.Freeze = refl
word_of-text word.Do = refl
word_of-text word.If = refl
word_of-text word.Else = refl
word_of-text word.True = refl
word_of-text word.False = refl
word_of-text word.Null = refl
word_of-text word.C = refl
word_of-text word.Isolate = refl
word_of-text word.Req = refl
word_of-text word.CancelOutput = refl
word_of-text word.Stop = refl
word_of-text word.Fold = refl
word_of-text word.Result = refl
word_of-text word.Status = refl
word_of-text word.Width = refl
word_of-text word.Height = refl
word_of-text word.Paste0 = refl
word_of-text word.Length = refl
word_of-text word.Nchar = refl
word_of-text word.Item = refl
word_of-text word.Sum = refl
word_of-text word.Min = refl
word_of-text word.Max = refl
word_of-text word.Seq = refl
word_of-text word.IsNull = refl
word_of-text word.AsInt = refl
word_of-text word.Bars = refl
word_of-text word.Lines = refl
word_of-text word.Points = refl

-- a letter, then letters, digits and `_`
abbrev pub is_spelling : List ℕ → Bool
is_spelling [] = false
is_spelling (b ∷ bs) = is_letter b && list_all is_of_word bs

pub is_spelling-text : (w : Word) → is_spelling (word_text w) ≡ true
is_spelling-text word.Budget = refl
is_spelling-text word.Input = refl
is_spelling-text word.Value = refl
is_spelling-text word.Task = refl
is_spelling-text word.Reactive = refl
is_spelling-text word.Event = refl
is_spelling-text word.Text = refl
is_spelling-text word.Plot = refl
is_spelling-text word.Observe = refl
is_spelling-text word.On = refl
is_spelling-text word.Priority = refl
is_spelling-text word.IgnoreInit = refl
is_spelling-text word.AllowNull = refl
is_spelling-text word.WhileHidden = refl
is_spelling-text word.Cache = refl
is_spelling-text word.Set = refl
is_spelling-text word.Invoke = refl
is_spelling-text word.Update = refl
is_spelling-text word.Freeze = refl
is_spelling-text word.Do = refl
is_spelling-text word.If = refl
is_spelling-text word.Else = refl
is_spelling-text word.True = refl
is_spelling-text word.False = refl
is_spelling-text word.Null = refl
is_spelling-text word.C = refl
is_spelling-text word.Isolate = refl
is_spelling-text word.Req = refl
is_spelling-text word.CancelOutput = refl
is_spelling-text word.Stop = refl
is_spelling-text word.Fold = refl
is_spelling-text word.Result = refl
is_spelling-text word.Status = refl
is_spelling-text word.Width = refl
is_spelling-text word.Height = refl
is_spelling-text word.Paste0 = refl
is_spelling-text word.Length = refl
is_spelling-text word.Nchar = refl
is_spelling-text word.Item = refl
is_spelling-text word.Sum = refl
is_spelling-text word.Min = refl
is_spelling-text word.Max = refl
is_spelling-text word.Seq = refl
is_spelling-text word.IsNull = refl
is_spelling-text word.AsInt = refl
is_spelling-text word.Bars = refl
is_spelling-text word.Lines = refl
is_spelling-text word.Points = refl
