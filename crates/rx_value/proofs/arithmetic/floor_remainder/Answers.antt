use Rattle.std.proofs.Common.{◌≡◌, ◌<◌, pos, neg_ℤ, ◌-ℤ◌, ◌<ℤ◌, arith, ◌∙◌, sym, to_z, of_z}
use Rattle.std.proofs.lemmas.Int.{ints}
use Rattle.std.specs.Prelude.{unsigned_abs}
use Rattle.std.specs.Int.{int_rem_euclid, w128}
use Rattle.rx_value.proofs.Division.{floor_remainder-negative, turned_rest}
use Rattle.rx_value.proofs.arithmetic.floor_remainder.Goals as goal

pub returns : goal.returns
returns c =
    let a_turned : to_z w128 (of_z w128 (pos 0 -ℤ to_z w128 (of_z w128 c.from-a.result))) ≡ neg_ℤ c.args.a = omega (arith, ints, c.from-a.ensures) in
    let b_turned : to_z w128 (of_z w128 (pos 0 -ℤ to_z w128 (of_z w128 c.from-b.result))) ≡ neg_ℤ c.args.b = omega (arith, ints, c.from-b.ensures) in
    let negative : c.args.b <ℤ pos 0 = omega (arith, ints) in
    let is : c.rem_euclid-rest.result ≡ int_rem_euclid (neg_ℤ c.args.a) (neg_ℤ c.args.b) =
    c.rem_euclid-rest.ensures.value ∙ (λ i. int_rem_euclid (a_turned i) (b_turned i)) in
    let below : unsigned_abs c.rem_euclid-rest.result < unsigned_abs (neg_ℤ c.args.b) =
    rw b_turned at c.rem_euclid-rest.ensures.upper_bound in
    turned_rest _ _ negative c.ranges.b c.rem_euclid-rest.ensures.lower_bound below
    ∙ sym (floor_remainder-negative _ _ _ negative is)
