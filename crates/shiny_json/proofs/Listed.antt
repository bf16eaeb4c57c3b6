-- Items made one by one in a loop, against the definitions by recursion.
use Rattle.std.proofs.Common.{◌≡◌, ℤ, List, [], ◌∷◌, map, refl, ap}
use Rattle.serde_json.specs.Data.{number, item}
use Rattle.serde_json.specs.Find.{of_integer}
use Rattle.serde_json.specs.View.{items_of}
use Rattle.shiny_json.specs.Values.{numbers_items, input_message_data, input_messages_items}
use Rattle.shiny_json.specs.declared.message.Pair.{Pair}

pub items_of-numbers : (zs : List ℤ) → items_of (map (λ z. number (of_integer z)) zs) ≡ numbers_items zs
items_of-numbers [] = refl
items_of-numbers (z ∷ zs) = ap (item (number (of_integer z))) (items_of-numbers zs)

pub items_of-messages : (ps : List Pair) → items_of (map input_message_data ps) ≡ input_messages_items ps
items_of-messages [] = refl
items_of-messages (p ∷ ps) = ap (item (input_message_data p)) (items_of-messages ps)
