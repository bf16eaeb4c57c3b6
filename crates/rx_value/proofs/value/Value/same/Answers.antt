use Rattle.std.proofs.Common.{◌≡◌, rules, subst}
use Rattle.std.specs.Prelude.{IsTrue, ◌↔◌}
use Rattle.rx_value.specs.Value.{value_eq}
use Rattle.rx_value.proofs.Sameness.{same_values}
use Rattle.rx_value.proofs.value.Value.same.Goals as goal

pub returns-in-Ints-Ints-clause-equal : goal.returns-in-Ints-Ints-clause-equal
returns-in-Ints-Ints-clause-equal c =
    let test : value_eq c.args.self.now c.args.other.now ≡ c.same_numbers.result = search rules in
    subst (λ b. IsTrue b ↔ (c.args.self.now ≡ c.args.other.now)) test (same_values c.args.self.now c.args.other.now)
