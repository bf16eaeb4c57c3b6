-- Which bodies count where a reader is evaluated.
use Rattle.std.specs.Prelude.{ℕ, Option, Some, Ok, Err}
use Rattle.app_tree.specs.Tree.{Trees, no_trees, tree, Node, reactive, event, text, plot}
use Rattle.app_tree.specs.Evaluate.{Answers}
use Rattle.app_tree.specs.Keys.{KeysResult, keys_result}

abbrev pub one_if_values : KeysResult → ℕ
one_if_values (Ok xs) = 1
one_if_values (Err failure) = 0

-- a body counts where there are no keys, or all of them came to values
abbrev pub bodies_behind_keys : Trees → Answers → ℕ
bodies_behind_keys no_trees answers = 1
bodies_behind_keys (tree key more) answers = one_if_values (keys_result (tree key more) answers)

-- that of an event counts, also where the event stops before it
abbrev pub bodies_counted : Option Node → Answers → ℕ
bodies_counted (Some (reactive name keys body)) answers = bodies_behind_keys keys answers
bodies_counted (Some (event name flags e body)) answers = 1
bodies_counted (Some (text name shown)) answers = bodies_behind_keys shown.keys answers
bodies_counted (Some (plot name shown)) answers = bodies_behind_keys shown.keys answers
bodies_counted _ answers = 0
