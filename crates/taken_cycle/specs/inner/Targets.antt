-- What a name of a message stands for, one look-up after another, and where the sizes of an output stand.
use Rattle.std.specs.Prelude.{ℕ, Bool, ◌||◌, List, Option, option_map, option_and_then, codes, take, filter, length}
use Rattle.app_tree.specs.Tree.{Node}
use Rattle.app_tree.specs.Numbering.{is_input, is_value, is_task, is_reader, output_count}
use Rattle.session_model.specs.Apply.{after_front, before_end, clientdata_output, Target, input, width, height, hidden, or_else}
use Rattle.taken_cycle.specs.declared.targets.Target.{Target as CodeTarget}
use Rattle.taken_cycle.specs.declared.targets.Target.TheVariants as code

abbrev pub target_is : CodeTarget → Target
target_is (code.Input s) = input s
target_is (code.Width n) = width n
target_is (code.Height n) = height n
target_is (code.Hidden n) = hidden n

abbrev pub height_or_hidden : List ℕ → List Node → Option Target
height_or_hidden name items = or_else (option_map height (clientdata_output (codes "_height") name items)) (option_map hidden (clientdata_output (codes "_hidden") name items))

abbrev pub output_target : List ℕ → List Node → Option Target
output_target name items = or_else (option_map width (clientdata_output (codes "_width") name items)) (height_or_hidden name items)

-- NAME in `.clientdata_output_NAME` and this end
abbrev pub output_name : List ℕ → List ℕ → Option (List ℕ)
output_name end name = option_and_then (before_end end) (after_front (codes ".clientdata_output_") name)

-- ---- where the sizes stand

abbrev pub is_declared : Node → Bool
is_declared i = is_input i || is_value i || is_task i

abbrev pub declared_count : List Node → ℕ
declared_count items = length (filter is_declared items)

abbrev pub outputs_before : List Node → ℕ → ℕ
outputs_before items n = output_count (take n (filter is_reader items))
