-- Which values a condition of `req` lets pass.
use Rattle.std.specs.Prelude.{Bool, true, false, [], ◌∷◌}
use Rattle.rx_value.specs.declared.value.Value.{Value}
use Rattle.rx_value.specs.declared.value.Value.TheVariants as v

-- all but NULL, FALSE, the empty text and the empty list; 0 among them
abbrev pub is_truthy : Value → Bool
is_truthy v.Null = false
is_truthy (v.Bool b) = b
is_truthy (v.Int z) = true
is_truthy (v.Text []) = false
is_truthy (v.Text (b ∷ bytes)) = true
is_truthy (v.Ints []) = false
is_truthy (v.Ints (z ∷ zs)) = true
