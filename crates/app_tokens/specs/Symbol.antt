-- The symbols, the longest first.
use Rattle.std.specs.Prelude.{ℕ, ◌&&◌, List, [], ◌∷◌, Option, Some, None, nat_eq, if◌then◌else◌}
use Rattle.std.specs.Str.{byte}
use Rattle.app_tokens.specs.declared.symbol.Symbol.{Symbol}
use Rattle.app_tokens.specs.declared.symbol.Symbol.TheVariants as symbol

abbrev pub one_byte_symbol : ℕ → Option Symbol
one_byte_symbol b =
    if nat_eq b (byte "(") then Some symbol.Open else (
    if nat_eq b (byte ")") then Some symbol.Close else (
    if nat_eq b (byte "{") then Some symbol.OpenBrace else (
    if nat_eq b (byte "}") then Some symbol.CloseBrace else (
    if nat_eq b (byte ",") then Some symbol.Comma else (
    if nat_eq b (byte ";") then Some symbol.Semicolon else (
    if nat_eq b (byte "=") then Some symbol.Assign else (
    if nat_eq b (byte "$") then Some symbol.Dollar else (
    if nat_eq b (byte "+") then Some symbol.Plus else (
    if nat_eq b (byte "-") then Some symbol.Minus else (
    if nat_eq b (byte "*") then Some symbol.Star else (
    if nat_eq b (byte "!") then Some symbol.Not else (
    if nat_eq b (byte "<") then Some symbol.Less else (
    if nat_eq b (byte ">") then Some symbol.Greater else
    None)))))))))))))

abbrev pub two_byte_symbol : ℕ → ℕ → Option Symbol
two_byte_symbol a b =
    if nat_eq a (byte "%") && nat_eq b (byte "%") then Some symbol.Remainder else (
    if nat_eq a (byte "=") && nat_eq b (byte "=") then Some symbol.Equal else (
    if nat_eq a (byte "!") && nat_eq b (byte "=") then Some symbol.NotEqual else (
    if nat_eq a (byte "<") && nat_eq b (byte "=") then Some symbol.AtMost else (
    if nat_eq a (byte ">") && nat_eq b (byte "=") then Some symbol.AtLeast else (
    if nat_eq a (byte "&") && nat_eq b (byte "&") then Some symbol.And else (
    if nat_eq a (byte "|") && nat_eq b (byte "|") then Some symbol.Or else
    None))))))

abbrev pub three_byte_symbol : ℕ → ℕ → ℕ → Option Symbol
three_byte_symbol a b c =
    if nat_eq a (byte "%") && nat_eq b (byte "/") && nat_eq c (byte "%") then Some symbol.Quotient else None

-- a symbol with its length, where there is one, and else what comes after it
abbrev pub sized_or : Option Symbol → ℕ → Option (Symbol × ℕ) → Option (Symbol × ℕ)
sized_or (Some s) size other = Some (s, size)
sized_or None size other = other

-- the longest symbol that begins the bytes, with its length
unfoldable pub symbol_of : List ℕ → Option (Symbol × ℕ)
symbol_of [] = None
symbol_of (a ∷ []) = sized_or (one_byte_symbol a) 1 None
symbol_of (a ∷ b ∷ []) = sized_or (two_byte_symbol a b) 2 (sized_or (one_byte_symbol a) 1 None)
symbol_of (a ∷ b ∷ c ∷ more) =
    sized_or (three_byte_symbol a b c) 3 (sized_or (two_byte_symbol a b) 2 (sized_or (one_byte_symbol a) 1 None))
