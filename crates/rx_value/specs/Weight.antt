-- The weight of values, keys and outcomes, by which the length of a key and the size of a cache are
-- bounded.
use Rattle.std.specs.Prelude.{ℕ, ◌+◌, ◌-◌, ◌*◌, ◌^◌, min, length, sum_by}
use Rattle.rx_value.specs.declared.key.Key.{Key}
use Rattle.rx_value.specs.declared.outcome.Outcome.{Outcome}
use Rattle.rx_value.specs.declared.outcome.Outcome.TheVariants as o
use Rattle.rx_value.specs.declared.value.Value.{Value}
use Rattle.rx_value.specs.declared.value.Value.TheVariants as v

-- A weight or a sum of weights past the greatest number of 64 bits, 18,446,744,073,709,551,615, is
-- that number.
abbrev pub saturated_weight : ℕ → ℕ
saturated_weight n = min n (2 ^ 64 - 1)

-- a text's bytes count once, a list's numbers 8 each
abbrev pub value_weight : Value → ℕ
value_weight v.Null = 1
value_weight (v.Bool b) = 2
value_weight (v.Int z) = 9
value_weight (v.Text t) = saturated_weight (5 + length t)
value_weight (v.Ints zs) = saturated_weight (5 + 8 * length zs)

abbrev pub key_weight : Key → ℕ
key_weight k = saturated_weight (4 + sum_by value_weight k.parts)

-- a value's own weight, a failure's text like a text; what has neither weighs 1
abbrev pub outcome_weight : Outcome → ℕ
outcome_weight (o.Val v) = value_weight v
outcome_weight (o.Fail t) = saturated_weight (5 + length t)
outcome_weight o.Stop = 1
outcome_weight o.Cancel = 1
outcome_weight o.Running = 1

-- the weight of an outcome that is kept under a key
abbrev pub entry_weight : Key → Outcome → ℕ
entry_weight k o = saturated_weight (key_weight k + outcome_weight o)
