use Rattle.std.proofs.Common.{◌≡◌, to_z, of_z, rules}
use Rattle.std.specs.Int.{w128}
use Rattle.rx_value.specs.Arithmetic.{floor_quotient}
use Rattle.rx_value.proofs.Division.{is_rounded_down}
use Rattle.rx_value.proofs.arithmetic.floor_quotient.Goals as goal

pub returns-then-b-gt0-clause-rounded : goal.returns-then-b-gt0-clause-rounded
returns-then-b-gt0-clause-rounded c =
    let value : to_z w128 (of_z w128 c.div_euclid.result) ≡ floor_quotient c.args.a c.args.b = search rules in
    is_rounded_down _ _ _ c.requires value

pub returns-else-b-gt0-clause-rounded : goal.returns-else-b-gt0-clause-rounded
returns-else-b-gt0-clause-rounded c =
    let value : to_z w128 (of_z w128 c.div_euclid-else-b-gt0.result) ≡ floor_quotient c.args.a c.args.b = search rules in
    is_rounded_down _ _ _ c.requires value
