-- What a name of a message stands for, one look-up after another.
use Rattle.std.specs.Prelude.{ℕ, List, Option, option_map, option_and_then, codes}
use Rattle.app_tree.specs.Tree.{Node}
use Rattle.session_model.specs.Apply.{after_front, before_end, clientdata_output, Target, input, width, height, hidden, or_else}
use Rattle.flush_cycle.specs.declared.targets.Target.{Target as CodeTarget}
use Rattle.flush_cycle.specs.declared.targets.Target.TheVariants as code

abbrev pub target_is : CodeTarget → Target
target_is (code.Input s) = input s
target_is (code.Width n) = width n
target_is (code.Height n) = height n
target_is (code.Hidden n) = hidden n

abbrev pub height_or_hidden : List ℕ → List Node → Option Target
height_or_hidden name items = or_else (option_map height (clientdata_output (codes "_height") name items)) (option_map hidden (clientdata_output (codes "_hidden") name items))

abbrev pub output_target : List ℕ → List Node → Option Target
output_target name items = or_else (option_map width (clientdata_output (codes "_width") name items)) (height_or_hidden name items)

-- NAME in `.clientdata_output_NAME` and this end
abbrev pub output_name : List ℕ → List ℕ → Option (List ℕ)
output_name end name = option_and_then (before_end end) (after_front (codes ".clientdata_output_") name)
