-- The Leaves of an asker that asks a cache or passes it by.
use Rattle.std.specs.Prelude.{ℕ, Bool, true, false, List, [], ◌∷◌, map, if◌then◌else◌}
use Rattle.rx_value.specs.declared.key.Key.{Key}
use Rattle.term_eval.specs.Lent.{Lent}
use Rattle.book_asker.specs.declared.owner.TheConstants.{OWNER}

-- the number of a Leave, by whether the cache gave it: as the cache's own ones, or another one
abbrev pub number_of : Bool → ℕ
number_of true = OWNER
number_of false = 1

-- the Leave of a key, with whether the cache gave it
abbrev pub drawn_lent : Key × Bool → Lent
drawn_lent held = record { key = held.0; number = number_of held.1 }

-- all that are out, in the order of the claims
abbrev pub drawn_out : List (Key × Bool) → List Lent
drawn_out held = map drawn_lent held

-- those of them that the cache gave
abbrev pub given_out : List (Key × Bool) → List Lent
given_out [] = []
given_out (e ∷ held) = if e.1 then drawn_lent e ∷ given_out held else given_out held
