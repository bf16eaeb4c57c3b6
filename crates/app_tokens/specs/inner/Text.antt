-- The parts of a text: runs of plain bytes, and between them pairs, up to the closing quote.
use Rattle.std.specs.Prelude.{ℕ, Bool, not, ◌||◌, List, [], ◌∷◌, Option, Some, None, Result, Ok, Err, nat_eq, nat_lt, if◌then◌else◌}
use Rattle.std.specs.Str.{byte}
use Rattle.app_tokens.specs.declared.error.TokenError.{TokenError}
use Rattle.app_tokens.specs.declared.error.TokenError.TheVariants.{BadByte}
use Rattle.app_tokens.specs.Scan.{refusal_at_end, is_pair, meaning_of}

-- a byte of a text that stands for itself
abbrev pub is_plain : ℕ → Bool
is_plain b = not (nat_eq b (byte "\"") || nat_eq b (byte "\\") || nat_lt b 32)

-- what follows the plain bytes of a text: a pair, by the byte that it stands for, or none, at the closing quote
unfoldable pub pair_of : Bool → ℕ → ℕ → List ℕ → Result (Option ℕ) TokenError
pair_of whole quote place [] = refusal_at_end whole quote place
pair_of whole quote place (b ∷ []) =
    if nat_eq b (byte "\"") then Ok None else (
    if nat_eq b (byte "\\") then refusal_at_end whole quote place else Err (BadByte place))
pair_of whole quote place (b ∷ c ∷ rest) =
    if nat_eq b (byte "\"") then Ok None else (
    if nat_eq b (byte "\\") then (if is_pair c then Ok (Some (meaning_of c)) else Err (BadByte place))
    else Err (BadByte place))
