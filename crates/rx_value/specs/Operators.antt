-- What each operator gives for operands that have values.
use Rattle.std.specs.Prelude.{zero, ℤ, pos, ◌+ℤ◌, ◌-ℤ◌, ◌*ℤ◌, neg_ℤ, Bool, not, Option, Some, None, if◌then◌else◌}
use Rattle.std.specs.declared.cmp.Ordering.{Ordering}
use Rattle.std.specs.Ordering.{nat_cmp, int_cmp, is_lt, is_le, is_gt, is_ge}
use Rattle.std.specs.Option.{option_map}
use Rattle.std.specs.Cmp.Lexicographic.{slice_cmp}
use Rattle.rx_value.specs.declared.value.Value.{Value}
use Rattle.rx_value.specs.declared.value.Value.TheVariants as v
use Rattle.rx_value.specs.declared.outcome.Outcome.{Outcome}
use Rattle.rx_value.specs.declared.outcome.Outcome.TheVariants as o
use Rattle.rx_value.specs.declared.failure.Failure.TheVariants as f
use Rattle.rx_value.specs.declared.operator.UnOp.{UnOp}
use Rattle.rx_value.specs.declared.operator.UnOp.TheVariants as un
use Rattle.rx_value.specs.declared.operator.BinOp.{BinOp}
use Rattle.rx_value.specs.declared.operator.BinOp.TheVariants as bin
use Rattle.rx_value.specs.Arithmetic.{is_in_range, floor_quotient, floor_remainder}
use Rattle.rx_value.specs.Failure.{failure_outcome}
use Rattle.rx_value.specs.Value.{value_eq}

-- a number that was computed
abbrev pub number_outcome : ℤ → Outcome
number_outcome z = if is_in_range z then o.Val (v.Int z) else failure_outcome f.NumberOutOfRange

abbrev pub bool_outcome : Bool → Outcome
bool_outcome b = o.Val (v.Bool b)

-- of a division, by the meaning that it has where the divisor isn't 0
abbrev pub division_outcome : (ℤ → ℤ → Outcome) → ℤ → ℤ → Outcome
division_outcome meaning a (pos zero) = failure_outcome f.DivisionByZero
division_outcome meaning a b = meaning a b

-- an operator on two numbers
abbrev pub of_numbers : (ℤ → ℤ → Outcome) → Value → Value → Outcome
of_numbers meaning (v.Int a) (v.Int b) = meaning a b
of_numbers meaning _ _ = failure_outcome f.WrongKind

-- how two numbers, or the bytes of two texts, are ordered; nothing else is
abbrev pub order_of : Value → Value → Option Ordering
order_of (v.Int a) (v.Int b) = Some (int_cmp a b)
order_of (v.Text a) (v.Text b) = Some (slice_cmp nat_cmp a b)
order_of _ _ = None

-- true or false, where there is an answer
abbrev pub truth_outcome : Option Bool → Outcome
truth_outcome (Some b) = bool_outcome b
truth_outcome None = failure_outcome f.WrongKind

-- whether two operands are ordered as a test wants it
abbrev pub comparison_outcome : (Ordering → Bool) → Value → Value → Outcome
comparison_outcome test x y = truth_outcome (option_map test (order_of x y))

abbrev pub unary_result : UnOp → Value → Outcome
unary_result un.Negate (v.Int z) = number_outcome (neg_ℤ z)
unary_result un.Negate _ = failure_outcome f.WrongKind
unary_result un.Not (v.Bool b) = bool_outcome (not b)
unary_result un.Not _ = failure_outcome f.NotACondition

abbrev pub binary_result : BinOp → Value → Value → Outcome
binary_result bin.Add x y = of_numbers (λ a b. number_outcome (a +ℤ b)) x y
binary_result bin.Subtract x y = of_numbers (λ a b. number_outcome (a -ℤ b)) x y
binary_result bin.Multiply x y = of_numbers (λ a b. number_outcome (a *ℤ b)) x y
binary_result bin.Divide x y = of_numbers (division_outcome (λ a b. number_outcome (floor_quotient a b))) x y
binary_result bin.Modulo x y = of_numbers (division_outcome (λ a b. o.Val (v.Int (floor_remainder a b)))) x y
binary_result bin.Equal x y = bool_outcome (value_eq x y)
binary_result bin.NotEqual x y = bool_outcome (not (value_eq x y))
binary_result bin.Less x y = comparison_outcome is_lt x y
binary_result bin.LessOrEqual x y = comparison_outcome is_le x y
binary_result bin.Greater x y = comparison_outcome is_gt x y
binary_result bin.GreaterOrEqual x y = comparison_outcome is_ge x y
