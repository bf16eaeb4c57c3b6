-- What each function gives for arguments that have values.
use Rattle.std.specs.Prelude.{ℕ, zero, suc, ◌-◌, ◌*◌, ◌+◌, ℤ, pos, negsuc, ◌+ℤ◌, ◌-ℤ◌, neg_ℤ, Bool, true, false, ◌&&◌, nat_eq, nat_le, ◌==◌, List, [], ◌∷◌, ◌++◌, length, fold, slice_get, Option, Some, None, is_some, unwrap_or, if◌then◌else◌}
use Rattle.std.specs.Int.{int_min, int_max}
use Rattle.std.specs.List.{list_all}
use Rattle.std.specs.Char.{is_ascii_digit}
use Rattle.std.specs.Str.{chars}
use Rattle.rx_value.specs.declared.value.Value.{Value}
use Rattle.rx_value.specs.declared.value.Value.TheVariants as v
use Rattle.rx_value.specs.declared.outcome.Outcome.{Outcome}
use Rattle.rx_value.specs.declared.outcome.Outcome.TheVariants as o
use Rattle.rx_value.specs.declared.failure.Failure.TheVariants as f
use Rattle.rx_value.specs.declared.function.Fun.{Fun}
use Rattle.rx_value.specs.declared.function.Fun.TheVariants as fun
use Rattle.rx_value.specs.declared.limits.TheConstants.{TEXT_LIMIT, LIST_LIMIT}
use Rattle.rx_value.specs.Arithmetic.{is_in_range}
use Rattle.rx_value.specs.Failure.{failure_outcome}
use Rattle.rx_value.specs.Numbers.{number_list}
use Rattle.rx_value.specs.Operators.{number_outcome, bool_outcome}
use Rattle.rx_value.specs.Show.{show}

-- ---- how many arguments

-- None: any number
abbrev pub argument_count : Fun → Option ℕ
argument_count fun.C = None
argument_count fun.Paste0 = None
argument_count fun.Item = Some 2
argument_count fun.Seq = Some 2
argument_count _ = Some 1

abbrev pub is_count : Option ℕ → ℕ → Bool
is_count None n = true
is_count (Some k) n = nat_eq n k

-- whether a function takes this many arguments
abbrev pub takes_arguments : Fun → ℕ → Bool
takes_arguments g n = is_count (argument_count g) n

-- ---- lists

-- what is made of the numbers of a value, or of several
abbrev pub of_list : (List ℤ → Outcome) → Option (List ℤ) → Outcome
of_list meaning (Some zs) = meaning zs
of_list meaning None = failure_outcome f.WrongKind

abbrev pub is_list : Value → Bool
is_list x = is_some (number_list x)

abbrev pub all_numbers : List Value → List ℤ
all_numbers [] = []
all_numbers (x ∷ xs) = unwrap_or (number_list x) [] ++ all_numbers xs

-- the numbers of all the values, where each is a list
abbrev pub joined_numbers : List Value → Option (List ℤ)
joined_numbers xs = if list_all is_list xs then Some (all_numbers xs) else None

abbrev pub list_outcome : List ℤ → Outcome
list_outcome zs = if nat_le (length zs) LIST_LIMIT then o.Val (v.Ints zs) else failure_outcome f.ListTooLong

-- 0 for NULL, the count of a list's numbers, else 1
abbrev pub length_of : Value → ℕ
length_of v.Null = 0
length_of (v.Ints zs) = length zs
length_of _ = 1

abbrev pub number_found : Option ℤ → Outcome
number_found (Some z) = o.Val (v.Int z)
number_found None = failure_outcome f.IndexOutOfRange

-- the number at a place of a list, counted from 1
abbrev pub number_at : List ℤ → ℤ → Option ℤ
number_at zs (pos (suc n)) = slice_get zs n
number_at zs _ = None

abbrev pub item_of : Option (List ℤ) → Value → Outcome
item_of (Some zs) (v.Int i) = number_found (number_at zs i)
item_of _ _ = failure_outcome f.WrongKind

-- the whole sum, which fits or not whatever its parts do
abbrev pub sum_of : List ℤ → ℤ
sum_of [] = pos 0
sum_of (z ∷ zs) = z +ℤ sum_of zs

abbrev pub least_of : List ℤ → Option ℤ
least_of [] = None
least_of (z ∷ zs) = Some (fold int_min z zs)

abbrev pub greatest_of : List ℤ → Option ℤ
greatest_of [] = None
greatest_of (z ∷ zs) = Some (fold int_max z zs)

-- this many numbers, the first and each next one
abbrev pub numbers_from : ℤ → ℕ → List ℤ
numbers_from z zero = []
numbers_from z (suc n) = z ∷ numbers_from (z +ℤ pos 1) n

-- a number's part above 0
abbrev pub natural_part : ℤ → ℕ
natural_part (pos n) = n
natural_part (negsuc n) = 0

-- how many numbers there are from a to b
abbrev pub count_between : ℤ → ℤ → ℕ
count_between a b = natural_part (b +ℤ pos 1 -ℤ a)

abbrev pub numbers_if : Bool → ℤ → ℕ → Outcome
numbers_if true z n = o.Val (v.Ints (numbers_from z n))
numbers_if false z n = failure_outcome f.ListTooLong

abbrev pub sequence_of : Value → Value → Outcome
sequence_of (v.Int a) (v.Int b) = numbers_if (nat_le (count_between a b) LIST_LIMIT) a (count_between a b)
sequence_of _ _ = failure_outcome f.WrongKind

-- ---- texts

-- the texts that are shown for the values, one behind the other
abbrev pub joined_texts : List Value → List ℕ
joined_texts [] = []
joined_texts (x ∷ xs) = show x ++ joined_texts xs

abbrev pub text_outcome : List ℕ → Outcome
text_outcome t = if nat_le (length t) TEXT_LIMIT then o.Val (v.Text t) else failure_outcome f.TextTooLong

-- the number of a text's characters
abbrev pub characters_of : Value → Outcome
characters_of (v.Text t) = o.Val (v.Int (pos (length (chars t))))
characters_of _ = failure_outcome f.WrongKind

-- the number that digits stand for, behind those that stand for n
abbrev pub number_behind : ℕ → List ℕ → ℕ
number_behind n [] = n
number_behind n (digit ∷ digits) = number_behind (n * 10 + (digit - 48)) digits

-- one or more digits
abbrev pub are_digits : List ℕ → Bool
are_digits [] = false
are_digits (b ∷ bytes) = list_all is_ascii_digit (b ∷ bytes)

abbrev pub number_if : Bool → ℤ → Option ℤ
number_if true z = Some z
number_if false z = None

-- the number of digits with this sign, where it fits
abbrev pub signed_number : (ℕ → ℤ) → List ℕ → Option ℤ
signed_number sign bytes =
    number_if (are_digits bytes && is_in_range (sign (number_behind 0 bytes))) (sign (number_behind 0 bytes))

-- the number that an optional minus sign and digits spell
abbrev pub number_of_text : List ℕ → Option ℤ
number_of_text [] = None
number_of_text (b ∷ bytes) =
    if b == 45 then signed_number (λ n. neg_ℤ (pos n)) bytes else signed_number (λ n. pos n) (b ∷ bytes)

abbrev pub number_or_null : Option ℤ → Value
number_or_null (Some z) = v.Int z
number_or_null None = v.Null

abbrev pub as_number : Value → Value
as_number (v.Int z) = v.Int z
as_number (v.Text t) = number_or_null (number_of_text t)
as_number _ = v.Null

abbrev pub is_null : Value → Bool
is_null v.Null = true
is_null _ = false

-- ---- calls

abbrev pub of_one : (Value → Outcome) → List Value → Outcome
of_one meaning (x ∷ []) = meaning x
of_one meaning _ = failure_outcome f.WrongKind

abbrev pub of_two : (Value → Value → Outcome) → List Value → Outcome
of_two meaning (x ∷ y ∷ []) = meaning x y
of_two meaning _ = failure_outcome f.WrongKind

-- no call has another number of arguments than its function takes
abbrev pub function_result : Fun → List Value → Outcome
function_result fun.C xs = of_list list_outcome (joined_numbers xs)
function_result fun.Paste0 xs = text_outcome (joined_texts xs)
function_result fun.Length xs = of_one (λ x. o.Val (v.Int (pos (length_of x)))) xs
function_result fun.Nchar xs = of_one characters_of xs
function_result fun.Item xs = of_two (λ x i. item_of (number_list x) i) xs
function_result fun.Sum xs = of_one (λ x. of_list (λ zs. number_outcome (sum_of zs)) (number_list x)) xs
function_result fun.Min xs = of_one (λ x. of_list (λ zs. number_found (least_of zs)) (number_list x)) xs
function_result fun.Max xs = of_one (λ x. of_list (λ zs. number_found (greatest_of zs)) (number_list x)) xs
function_result fun.Seq xs = of_two sequence_of xs
function_result fun.IsNull xs = of_one (λ x. bool_outcome (is_null x)) xs
function_result fun.AsInt xs = of_one (λ x. o.Val (as_number x)) xs
