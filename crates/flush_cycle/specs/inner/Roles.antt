-- When a flush runs a reader, in the parts of the code.
use Rattle.std.specs.Prelude.{Bool, true, false, None}
use Rattle.app_tree.specs.Tree.{Node, text, plot, observe, on}
use Rattle.session_model.specs.Standing.{KeptOutput}
use Rattle.flush_cycle.specs.declared.output.Role.{Role}
use Rattle.flush_cycle.specs.declared.output.Role.TheVariants as role
use Rattle.flush_cycle.specs.declared.output.OutputState.{OutputState}

abbrev pub shown_role : Bool → Role
shown_role true = role.Always
shown_role false = role.WhileShown

-- observers always run, outputs while they are shown, unless they run while they are hidden too, and no other reader does
abbrev pub role_of : Node → Role
role_of (text name output) = shown_role output.while_hidden
role_of (plot name output) = shown_role output.while_hidden
role_of (observe name priority block) = role.Always
role_of (on name priority flags e block) = role.Always
role_of _ = role.Never

-- whether it is run, where the client shows it or not
abbrev pub is_run_in : Role → Bool → Bool
is_run_in role.Never shown = false
is_run_in role.Always shown = true
is_run_in role.WhileShown shown = shown

abbrev pub output_seen : OutputState → KeptOutput
output_seen o = record { shown = o.shown; last = o.last }

-- neither shown nor run
abbrev pub first_output : Node → OutputState
first_output i = record { role = role_of i; shown = false; last = None }
