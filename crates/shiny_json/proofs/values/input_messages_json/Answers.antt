use Rattle.std.proofs.Common.{◌≡◌, ap, ◌∙◌, map, take}
use Rattle.std.proofs.lemmas.List.{take_all}
use Rattle.serde_json.specs.Data.{array}
use Rattle.serde_json.specs.View.{view, items_of}
use Rattle.serde_json.proofs.Views.{view-Array}
use Rattle.shiny_json.specs.Values.{input_message_data}
use Rattle.shiny_json.proofs.Listed.{items_of-messages}
use Rattle.shiny_json.proofs.values.input_messages_json.Goals as goal

pub returns : goal.returns
returns c =
    let messages = c.args.messages.now in
    let whole : take c.loop-message.message-index messages ≡ messages = take_all _ _ c.loop-message-test.false in
    let made : map view c.loop-message.items.items ≡ map input_message_data messages = c.loop-message.invariant ∙ ap (map input_message_data) whole in
    view-Array c.loop-message.items ∙ ap array (ap items_of made ∙ items_of-messages messages)
