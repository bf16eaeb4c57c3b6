-- Worked examples of the operators and functions, each found by computing.
use Rattle.std.proofs.Common.{◌≡◌, refl, [], ◌∷◌, pos, negsuc, true, false}
use Rattle.std.specs.Prelude.{codes, replicate}
use Rattle.std.specs.Str.{chars}
use Rattle.std.specs.Fmt.{digits}
use Rattle.rx_value.specs.declared.value.Value.TheVariants.{Null, Bool, Int, Text, Ints}
use Rattle.rx_value.specs.declared.outcome.Outcome.TheVariants.{Val, Fail}
use Rattle.rx_value.specs.declared.operator.BinOp.TheVariants as bin
use Rattle.rx_value.specs.declared.operator.UnOp.TheVariants as un
use Rattle.rx_value.specs.declared.function.Fun.TheVariants as fun
use Rattle.rx_value.specs.Operators.{unary_result, binary_result}
use Rattle.rx_value.specs.Functions.{function_result}

pub sum_too_great : binary_result bin.Add (Int (pos 9223372036854775807)) (Int (pos 1)) ≡ Fail (codes "number out of range")
sum_too_great = refl

-- -7 and 2
pub rounded_down : binary_result bin.Divide (Int (negsuc 6)) (Int (pos 2)) ≡ Val (Int (negsuc 3))
rounded_down = refl

pub rest_of_rounded_down : binary_result bin.Modulo (Int (negsuc 6)) (Int (pos 2)) ≡ Val (Int (pos 1))
rest_of_rounded_down = refl

-- 7 and -2
pub rounded_down_by_negative : binary_result bin.Divide (Int (pos 7)) (Int (negsuc 1)) ≡ Val (Int (negsuc 3))
rounded_down_by_negative = refl

pub rest_of_rounded_down_by_negative : binary_result bin.Modulo (Int (pos 7)) (Int (negsuc 1)) ≡ Val (Int (negsuc 0))
rest_of_rounded_down_by_negative = refl

-- the least number and -1
pub quotient_too_great : binary_result bin.Divide (Int (negsuc 9223372036854775807)) (Int (negsuc 0)) ≡ Fail (codes "number out of range")
quotient_too_great = refl

pub rest_of_quotient_too_great : binary_result bin.Modulo (Int (negsuc 9223372036854775807)) (Int (negsuc 0)) ≡ Val (Int (pos 0))
rest_of_quotient_too_great = refl

pub least_negated : unary_result un.Negate (Int (negsuc 9223372036854775807)) ≡ Fail (codes "number out of range")
least_negated = refl

pub by_zero : binary_result bin.Modulo (Int (pos 1)) (Int (pos 0)) ≡ Fail (codes "division by zero")
by_zero = refl

pub no_condition : unary_result un.Not (Int (pos 1)) ≡ Fail (codes "condition is not true or false")
no_condition = refl

pub of_two_kinds : binary_result bin.Equal (Int (pos 1)) (Ints (pos 1 ∷ [])) ≡ Val (Bool false)
of_two_kinds = refl

-- the two bytes of é are above those of z
pub texts_by_bytes : binary_result bin.Less (Text (codes "z")) (Text (195 ∷ 169 ∷ [])) ≡ Val (Bool true)
texts_by_bytes = refl

pub text_and_number : binary_result bin.Less (Text (codes "1")) (Int (pos 2)) ≡ Fail (codes "wrong kind of value")
text_and_number = refl

-- a part of the sum does not fit, and the whole does
pub sum_with_great_part : function_result fun.Sum (Ints (pos 9223372036854775807 ∷ pos 1 ∷ negsuc 0 ∷ []) ∷ []) ≡ Val (Int (pos 9223372036854775807))
sum_with_great_part = refl

pub joined_lists : function_result fun.C (Ints (pos 1 ∷ negsuc 1 ∷ []) ∷ Null ∷ Int (pos 3) ∷ []) ≡ Val (Ints (pos 1 ∷ negsuc 1 ∷ pos 3 ∷ []))
joined_lists = refl

pub wrong_kind_before_length : function_result fun.C (Ints (replicate 1001 (pos 1)) ∷ Text [] ∷ []) ≡ Fail (codes "wrong kind of value")
wrong_kind_before_length = refl

pub sequence_too_long : function_result fun.Seq (Int (pos 0) ∷ Int (pos 1000) ∷ []) ≡ Fail (codes "list too long")
sequence_too_long = refl

pub sequence_upwards : function_result fun.Seq (Int (negsuc 0) ∷ Int (pos 1) ∷ []) ≡ Val (Ints (negsuc 0 ∷ pos 0 ∷ pos 1 ∷ []))
sequence_upwards = refl

pub sequence_downwards : function_result fun.Seq (Int (pos 9223372036854775807) ∷ Int (negsuc 9223372036854775807) ∷ []) ≡ Val (Ints [])
sequence_downwards = refl

pub first_item : function_result fun.Item (Ints (pos 5 ∷ pos 6 ∷ []) ∷ Int (pos 1) ∷ []) ≡ Val (Int (pos 5))
first_item = refl

pub no_item : function_result fun.Item (Ints (pos 5 ∷ pos 6 ∷ []) ∷ Int (pos 0) ∷ []) ≡ Fail (codes "index out of range")
no_item = refl

pub no_least : function_result fun.Min (Null ∷ []) ≡ Fail (codes "index out of range")
no_least = refl

-- é and € have two and three bytes
pub characters_counted : function_result fun.Nchar (Text (195 ∷ 169 ∷ 226 ∷ 130 ∷ 172 ∷ 97 ∷ []) ∷ []) ≡ Val (Int (pos 3))
unfolding chars
characters_counted = refl

pub shown_joined : function_result fun.Paste0 (Text (codes "a") ∷ Ints (pos 1 ∷ pos 2 ∷ []) ∷ Null ∷ Bool true ∷ []) ≡ Val (Text (codes "a1 2TRUE"))
unfolding digits
shown_joined = refl

pub least_number_read : function_result fun.AsInt (Text (codes "-9223372036854775808") ∷ []) ≡ Val (Int (negsuc 9223372036854775807))
least_number_read = refl

pub number_too_great : function_result fun.AsInt (Text (codes "9223372036854775808") ∷ []) ≡ Val Null
number_too_great = refl
