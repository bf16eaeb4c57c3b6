-- Division rounded down, and the division that leaves no negative rest.
use Rattle.std.proofs.Common.{◌≡◌, ℕ, zero, suc, ◌<◌, arith, ℤ, pos, negsuc, neg_ℤ, ◌-ℤ◌, ◌<ℤ◌, ◌≢◌, refl, subst, ap, sym, ◌∙◌, to_z, of_z, w64, FitsSigned}
use Rattle.std.specs.Prelude.{unsigned_abs}
use Rattle.std.specs.Int.{int_rem_euclid, IsNonNegative, w128}
use Rattle.std.proofs.lemmas.Int.{ints}
use Rattle.rx_value.specs.Arithmetic.{floor_quotient, floor_remainder, IsRoundedDown}

-- by a negative number: both signs may be turned
pub floor_remainder-negsuc : (a : ℤ) (d : ℕ) → floor_remainder a (negsuc d) ≡ neg_ℤ (int_rem_euclid (neg_ℤ a) (pos (suc d)))
floor_remainder-negsuc (pos zero) d = omega (arith, ints)
floor_remainder-negsuc (pos (suc n)) d = omega (arith, ints)
floor_remainder-negsuc (negsuc n) d = omega (arith, ints)

pub floor_remainder-negative : (a b rest : ℤ) → b <ℤ pos 0 → rest ≡ int_rem_euclid (neg_ℤ a) (neg_ℤ b) → floor_remainder a b ≡ neg_ℤ rest
floor_remainder-negative a (pos n) rest lt is = absurd (omega (arith, ints))
floor_remainder-negative a (negsuc d) rest lt is = floor_remainder-negsuc a d ∙ ap neg_ℤ (sym is)

-- the rest fits as the divisor does
pub turned_rest : (b rest : ℤ) → b <ℤ pos 0 → FitsSigned w64 b → IsNonNegative rest → unsigned_abs rest < unsigned_abs (neg_ℤ b)
    → to_z w64 (of_z w64 (to_z w128 (of_z w128 (pos 0 -ℤ to_z w128 (of_z w128 rest))))) ≡ neg_ℤ rest
turned_rest (pos n) rest lt fits above below = absurd (omega (arith, ints))
turned_rest (negsuc d) (negsuc n) lt fits above below = absurd above
turned_rest (negsuc d) (pos n) lt fits above below = omega (arith, ints)

IsRoundedDown-floor_quotient : (a b : ℤ) → b ≢ pos 0 → IsRoundedDown a b (floor_quotient a b)
IsRoundedDown-floor_quotient a (pos zero) some = absurd (some refl)
IsRoundedDown-floor_quotient (pos n) (pos (suc d)) some = (omega (arith, ints), omega (arith, ints))
IsRoundedDown-floor_quotient (negsuc n) (pos (suc d)) some = (omega (arith, ints), omega (arith, ints))
IsRoundedDown-floor_quotient (pos zero) (negsuc d) some = (omega (arith, ints), omega (arith, ints))
IsRoundedDown-floor_quotient (pos (suc n)) (negsuc d) some = (omega (arith, ints), omega (arith, ints))
IsRoundedDown-floor_quotient (negsuc n) (negsuc d) some = (omega (arith, ints), omega (arith, ints))

pub is_rounded_down : (a b q : ℤ) → b ≢ pos 0 → q ≡ floor_quotient a b → IsRoundedDown a b q
is_rounded_down a b q some is = subst (IsRoundedDown a b) (sym is) (IsRoundedDown-floor_quotient a b some)
