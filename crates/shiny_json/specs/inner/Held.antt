-- What the writer's own types hold, as the definitions see it.
use Rattle.serde_json.specs.View.{view, members_view}
use Rattle.shiny_json.specs.Values.{Entry, shown, failed, unsaid, Parts}
use Rattle.shiny_json.specs.declared.values.OutputEntry.{OutputEntry}
use Rattle.shiny_json.specs.declared.values.OutputEntry.TheVariants.{Shown, Failed, Unsaid}
use Rattle.shiny_json.specs.declared.values.OutputParts.{OutputParts}

abbrev pub entry_of : OutputEntry → Entry
entry_of (Shown json) = shown (view json)
entry_of (Failed json) = failed (view json)
entry_of Unsaid = unsaid

abbrev pub parts_of : OutputParts → Parts
parts_of p = record { errors = members_view p.errors.entries; values = members_view p.values.entries }
