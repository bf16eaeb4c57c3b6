-- The Leaves that are out of an asker over one cache.
use Rattle.std.specs.Prelude.{◌≡◌, ℕ, List, map, All}
use Rattle.std.specs.Map.{values_of}
use Rattle.rx_value.specs.declared.key.Key.{Key}
use Rattle.term_eval.specs.Lent.{Lent}
use Rattle.cache_book.specs.Machine.{CacheState}

-- its number is the owner of the claim
abbrev pub lent_of : Key × ℕ → Lent
lent_of claim = record { key = claim.0; number = claim.1 }

-- one for each key that is in flight, in the order of the claims
abbrev pub leaves_out : CacheState → List Lent
leaves_out s = map lent_of s.in_flight

-- Every key that is in flight has this owner.
abbrev pub IsOwnedBy : ℕ → CacheState → Type 0
IsOwnedBy owner s = All (λ other. other ≡ owner) (values_of s.in_flight)
