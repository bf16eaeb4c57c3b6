use Rattle.std.proofs.Common.{◌≡◌, drop}
use Rattle.serde_json.specs.View.{items_view}
use Rattle.shiny_json.specs.Client.{whole_numbers}
use Rattle.shiny_json.proofs.Numbers.{followed_by}
use Rattle.shiny_json.proofs.client.whole_numbers.Given as goal

abbrev pub invariant-loop-item : goal.invariant-loop-item
invariant-loop-item l =
    followed_by l.numbers (whole_numbers (items_view (drop l.item-index l.items)))
    ≡ whole_numbers (items_view l.items)
