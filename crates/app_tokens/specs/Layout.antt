-- Where the tokens of a file stand in it.
use Rattle.std.specs.Prelude.{◌≡◌, ℕ, ◌+◌, Bool, true, false, not, List, [], ◌∷◌, ◌++◌, length, Option, Some, None, IsSome, nat_eq, if◌then◌else◌}
use Rattle.std.specs.Str.{byte}
use Rattle.app_tokens.specs.declared.token.Token.{Token}
use Rattle.app_tokens.specs.Scan.{is_blank}

-- whether a comment is open behind these bytes, where one is open before them or not; None if they aren't blanks and
-- comments alone
abbrev pub comment_after : Bool → List ℕ → Option Bool
comment_after before [] = Some before
comment_after true (b ∷ bs) = comment_after (not (nat_eq b 10)) bs
comment_after false (b ∷ bs) =
    if is_blank b then comment_after false bs else (if nat_eq b (byte "#") then comment_after true bs else None)

-- `StandIn`, of bytes before which a comment may be open
abbrev pub StandBehind : Bool → ℕ → List ℕ → List Token → Type 0
StandBehind before place bytes [] = IsSome (comment_after before bytes)
StandBehind before place bytes (t ∷ more) =
    (gap : List ℕ) × (rest : List ℕ) × (comment_after before gap ≡ Some false) × (t.place ≡ place + length gap)
    × (bytes ≡ gap ++ (t.spelling ++ rest)) × StandBehind false (t.place + length t.spelling) rest more

-- the bytes at this place are the tokens' spellings in their order, each at its token's place, and before, between and
-- behind them stand blanks and comments alone
abbrev pub StandIn : ℕ → List ℕ → List Token → Type 0
StandIn = StandBehind false
