use Rattle.std.proofs.Common.{◌≡◌, ap, ◌∙◌, map, take}
use Rattle.std.proofs.lemmas.List.{take_all}
use Rattle.serde_json.specs.Data.{array, number}
use Rattle.serde_json.specs.Find.{of_integer}
use Rattle.serde_json.specs.View.{view, items_of}
use Rattle.serde_json.proofs.Views.{view-Array}
use Rattle.shiny_json.proofs.Listed.{items_of-numbers}
use Rattle.shiny_json.proofs.values.numbers_json.Goals as goal

pub returns : goal.returns
returns c =
    let numbers = c.args.numbers.now in
    let whole : take c.loop-number.number-index numbers ≡ numbers = take_all _ _ c.loop-number-test.false in
    let made : map view c.loop-number.items.items ≡ map (λ z. number (of_integer z)) numbers = c.loop-number.invariant ∙ ap (map (λ z. number (of_integer z))) whole in
    view-Array c.loop-number.items ∙ ap array (ap items_of made ∙ items_of-numbers numbers)
