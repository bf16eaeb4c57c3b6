-- How a name of an app file is spelled.
use Rattle.std.specs.Prelude.{ℕ, Bool, false, not, ◌&&◌, ◌||◌, List, [], ◌∷◌, codes, bytes_eq, nat_eq, nat_le}
use Rattle.std.specs.List.{list_all, list_any}
use Rattle.std.specs.Str.{byte}

-- a decimal digit
abbrev pub is_digit : ℕ → Bool
is_digit b = nat_le (byte "0") b && nat_le b (byte "9")

-- an ASCII letter
abbrev pub is_letter : ℕ → Bool
is_letter b = nat_le (byte "a") b && nat_le b (byte "z") || nat_le (byte "A") b && nat_le b (byte "Z")

-- a byte of a word, behind its first letter
abbrev pub is_of_word : ℕ → Bool
is_of_word b = is_letter b || is_digit b || nat_eq b (byte "_")

-- the words that are no names
abbrev pub reserved_words : List (List ℕ)
reserved_words =
    codes "budget"
    ∷ codes "input"
    ∷ codes "value"
    ∷ codes "task"
    ∷ codes "reactive"
    ∷ codes "event"
    ∷ codes "text"
    ∷ codes "plot"
    ∷ codes "observe"
    ∷ codes "on"
    ∷ codes "priority"
    ∷ codes "ignoreInit"
    ∷ codes "allowNull"
    ∷ codes "whileHidden"
    ∷ codes "cache"
    ∷ codes "set"
    ∷ codes "invoke"
    ∷ codes "update"
    ∷ codes "freeze"
    ∷ codes "do"
    ∷ codes "if"
    ∷ codes "else"
    ∷ codes "TRUE"
    ∷ codes "FALSE"
    ∷ codes "NULL"
    ∷ codes "c"
    ∷ codes "isolate"
    ∷ codes "req"
    ∷ codes "cancelOutput"
    ∷ codes "stop"
    ∷ codes "fold"
    ∷ codes "result"
    ∷ codes "status"
    ∷ codes "width"
    ∷ codes "height"
    ∷ codes "paste0"
    ∷ codes "length"
    ∷ codes "nchar"
    ∷ codes "item"
    ∷ codes "sum"
    ∷ codes "min"
    ∷ codes "max"
    ∷ codes "seq"
    ∷ codes "is_null"
    ∷ codes "as_int"
    ∷ codes "bars"
    ∷ codes "lines"
    ∷ codes "points"
    ∷ []

unfoldable pub is_reserved : List ℕ → Bool
is_reserved word = list_any (λ reserved. bytes_eq reserved word) reserved_words

-- a letter, then letters, digits and `_`; and no reserved word
abbrev pub is_name : List ℕ → Bool
is_name [] = false
is_name (b ∷ bs) = is_letter b && list_all is_of_word bs && not (is_reserved (b ∷ bs))
