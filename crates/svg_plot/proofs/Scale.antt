-- The ends of the scale, and edges in their order.
use Rattle.std.proofs.Common.{◌≡◌, ℕ, ◌+◌, ◌-◌, ◌*◌, ◌/◌, ◌<◌, ◌≤◌, ℤ, pos, ◌≤ℤ◌, List, [], ◌∷◌, arith, div-mul-le_self}
use Rattle.std.specs.Int.{int_min, int_max}
use Rattle.std.proofs.lemmas.Int.{ints, clamps}
use Rattle.rx_value.specs.Plot.{least, greatest, Frame, edge_of}
use Rattle.std.proofs.lemmas.Nat.{le-div}

pub least_below_0 : (zs : List ℤ) → least zs ≤ℤ pos 0
least_below_0 [] = omega (arith, ints)
least_below_0 (z ∷ zs) = omega (arith, ints, clamps, least_below_0 zs)

pub greatest_above_0 : (zs : List ℤ) → pos 0 ≤ℤ greatest zs
greatest_above_0 [] = omega (arith, ints)
greatest_above_0 (z ∷ zs) = omega (arith, ints, clamps, greatest_above_0 zs)

pub int_min-least : (zs : List ℤ) → int_min (pos 0) (least zs) ≡ least zs
int_min-least zs = omega (arith, ints, clamps, least_below_0 zs)

pub int_max-greatest : (zs : List ℤ) → int_max (pos 0) (greatest zs) ≡ greatest zs
int_max-greatest zs = omega (arith, ints, clamps, greatest_above_0 zs)

pub edge_of-grows : (f : Frame) (i : ℕ) → 0 < f.count → edge_of f i ≤ edge_of f (i + 1)
unfolding edge_of
edge_of-grows f i some =
    let room = f.width - 20 in
    let less : i * room / f.count * f.count ≤ (i + 1) * room = omega (arith, div-mul-le_self (i * room) f.count) in
    omega (arith, le-div (i * room / f.count) ((i + 1) * room) f.count some less)
