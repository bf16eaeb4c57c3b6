-- What an event sets before its flush, step by step.
use Rattle.std.specs.Prelude.{◌<◌, ℕ, Bool, length, slice_set}
use Rattle.app_tree.specs.Tree.{Shape}
use Rattle.app_tree.specs.Numbering.{readers, starting_values, width_source, height_source}
use Rattle.app_tree.specs.Current.{value_at}
use Rattle.session_model.specs.State.{SessionState}
use Rattle.session_model.specs.Change.{change, thawed_value}
use Rattle.session_model.specs.Apply.{Target, input, width, height, hidden}
use Rattle.session_model.specs.Standing.{KeptFlush, kept_output}

-- a source thaws by itself
abbrev pub thawed_at : ℕ → SessionState → SessionState
thawed_at s state = change s (thawed_value (value_at state.values s)) state

-- what it sets is one of the app's own sources, or an output of the app
abbrev pub IsTargetOf : Shape → Target → Type 0
IsTargetOf app (input s) = s < length (starting_values app.items)
IsTargetOf app (width n) = width_source app n < length (starting_values app.items)
IsTargetOf app (height n) = height_source app n < length (starting_values app.items)
IsTargetOf app (hidden n) = n < length (readers app)

-- what is kept, with output n shown or hidden
abbrev pub kept_shown : ℕ → Bool → KeptFlush → KeptFlush
kept_shown n shown kept = record kept { outputs = slice_set kept.outputs n (record (kept_output kept n) { shown = shown }) }
