-- Whole numbers: which of them fit 64 bits, and division rounded down.
use Rattle.std.specs.Prelude.{ℕ, suc, ◌/◌, ◌^◌, ℤ, pos, negsuc, ◌+ℤ◌, ◌-ℤ◌, ◌*ℤ◌, neg_ℤ, ◌≤ℤ◌, ◌<ℤ◌, Bool, nat_lt}

-- whether a number fits 64 bits with sign
abbrev pub is_in_range : ℤ → Bool
is_in_range (pos n) = nat_lt n (2 ^ 63)
is_in_range (negsuc n) = nat_lt n (2 ^ 63)

-- the quotient by a positive number, rounded down
abbrev pub quotient_by : ℤ → ℕ → ℤ
quotient_by (pos n) d = pos (n / d)
quotient_by (negsuc n) d = negsuc (n / d)

-- the quotient rounded down: both signs may be turned
abbrev pub floor_quotient : ℤ → ℤ → ℤ
floor_quotient a (pos d) = quotient_by a d
floor_quotient a (negsuc d) = quotient_by (neg_ℤ a) (suc d)

-- what the quotient rounded down leaves of a
abbrev pub floor_remainder : ℤ → ℤ → ℤ
floor_remainder a b = a -ℤ b *ℤ floor_quotient a b

-- q is the greatest whole number that isn't above the quotient of a and b
abbrev pub IsRoundedDown : ℤ → ℤ → ℤ → Type 0
IsRoundedDown a (pos d) q = ((q *ℤ pos d) ≤ℤ a) × (a <ℤ (q *ℤ pos d +ℤ pos d))
IsRoundedDown a (negsuc d) q = (a ≤ℤ (q *ℤ negsuc d)) × ((q *ℤ negsuc d +ℤ negsuc d) <ℤ a)
