use Rattle.std.proofs.Common.{◌≡◌, map, take}
use Rattle.serde_json.specs.View.{view}
use Rattle.shiny_json.specs.Values.{input_message_data}
use Rattle.shiny_json.proofs.values.input_messages_json.Given as goal

abbrev pub invariant-loop-message : goal.invariant-loop-message
invariant-loop-message l = map view l.items.items ≡ map input_message_data (take l.message-index l.messages)
