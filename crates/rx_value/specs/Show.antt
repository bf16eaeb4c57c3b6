-- What an output shows for a value.
use Rattle.std.specs.Prelude.{ℕ, ℤ, List, [], ◌∷◌, ◌++◌, codes, if◌then◌else◌}
use Rattle.std.specs.Fmt.{signed_decimal}
use Rattle.rx_value.specs.declared.value.Value.{Value}
use Rattle.rx_value.specs.declared.value.Value.TheVariants as v

-- each number in decimal, with a space before it
abbrev pub spaced_numbers : List ℤ → List ℕ
spaced_numbers [] = []
spaced_numbers (z ∷ zs) = 32 ∷ signed_decimal z ++ spaced_numbers zs

-- the numbers in decimal, with one space between them
abbrev pub numbers_text : List ℤ → List ℕ
numbers_text [] = []
numbers_text (z ∷ zs) = signed_decimal z ++ spaced_numbers zs

abbrev pub show : Value → List ℕ
show v.Null = []
show (v.Bool b) = if b then codes "TRUE" else codes "FALSE"
show (v.Int z) = signed_decimal z
show (v.Text t) = t
show (v.Ints zs) = numbers_text zs
