use Rattle.std.proofs.Common.{◌≡◌, map, take}
use Rattle.serde_json.specs.Data.{number}
use Rattle.serde_json.specs.Find.{of_integer}
use Rattle.serde_json.specs.View.{view}
use Rattle.shiny_json.proofs.values.numbers_json.Given as goal

abbrev pub invariant-loop-number : goal.invariant-loop-number
invariant-loop-number l = map view l.items.items ≡ map (λ z. number (of_integer z)) (take l.number-index l.numbers)
