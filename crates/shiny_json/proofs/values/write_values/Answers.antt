use Rattle.std.proofs.Common.{◌≡◌, ap, ◌∙◌, rules}
use Rattle.serde_json.specs.Written.{has_float}
use Rattle.serde_json.specs.View.{view}
use Rattle.shiny_json.specs.Values.{no_parts, with_outputs, values_data}
use Rattle.shiny_json.proofs.Whole.{has_float-values_data}
use Rattle.shiny_json.proofs.values.write_values.Goals as goal

pub json_text-requires : goal.json_text-requires
json_text-requires c =
    let batch = c.args.batch.now in
    let made : view c.in_ok-json.json ≡ values_data (with_outputs batch.outputs no_parts) batch.messages = search rules in
    ap has_float made ∙ has_float-values_data batch.outputs batch.messages
