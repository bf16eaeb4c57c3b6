-- What a parsed text sets, in the form that `replay` takes today.
use Rattle.std.specs.Prelude.{◌==◌, Bool, false, List, Option, Some, None, if◌then◌else◌}
use Rattle.serde_json.specs.Data.{Data, object}
use Rattle.app_tree.specs.Tree.{Shape}
use Rattle.shiny_json.specs.declared.message.Pair.{Pair}
use Rattle.shiny_json.specs.Client.{json_message}
use Rattle.session_model.specs.TakenLines.{member_count, is_taken_json, pairs_set}

abbrev pub has_two_members : Data → Bool
has_two_members (object ms) = member_count ms == 2
has_two_members _ = false

abbrev pub taken_json_pairs : Shape → Bool → Data → Option (List Pair)
taken_json_pairs app first d = if is_taken_json app first (Some d) then pairs_set first (json_message (Some d)) else None
