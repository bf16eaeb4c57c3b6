use Rattle.std.proofs.Common.{◌≡◌, rules, subst}
use Rattle.std.specs.Prelude.{IsTrue, ◌↔◌}
use Rattle.rx_value.specs.Value.{key_eq}
use Rattle.rx_value.proofs.Sameness.{same_keys}
use Rattle.rx_value.proofs.key.Key.same.Goals as goal

pub returns-then-self-other-clause-equal : goal.returns-then-self-other-clause-equal
returns-then-self-other-clause-equal c =
    let test : key_eq c.args.self.now c.args.other.now ≡ c.same_values.result = search rules in
    subst (λ b. IsTrue b ↔ (c.args.self.now ≡ c.args.other.now)) test (same_keys c.args.self.now c.args.other.now)
