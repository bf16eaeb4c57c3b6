-- What a value gives where a list is asked for.
use Rattle.std.specs.Prelude.{ℤ, List, [], ◌∷◌, Option, Some, None}
use Rattle.rx_value.specs.declared.value.Value.{Value}
use Rattle.rx_value.specs.declared.value.Value.TheVariants as v

-- a list its numbers, NULL no number, a number itself; no other kind is a list
abbrev pub number_list : Value → Option (List ℤ)
number_list (v.Ints zs) = Some zs
number_list v.Null = Some []
number_list (v.Int z) = Some (z ∷ [])
number_list (v.Bool b) = None
number_list (v.Text t) = None
