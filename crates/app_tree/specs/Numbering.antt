-- How an app's sources and readers are numbered, each from 0.
use Rattle.std.specs.Prelude.{ℕ, suc, ◌+◌, Bool, true, false, ◌&&◌, ◌||◌, List, [], ◌∷◌, ◌++◌, map, filter, length, Option, Some, None, slice_get, unwrap_or, bytes_eq, if◌then◌else◌}
use Rattle.rx_value.specs.declared.value.Value.TheVariants.{Null}
use Rattle.rx_value.specs.declared.source.TaskView.TheVariants.{Initial}
use Rattle.rx_value.specs.declared.source.SourceValue.{SourceValue}
use Rattle.rx_value.specs.declared.source.SourceValue.TheVariants.{Plain, Task}
use Rattle.app_tree.specs.Tree.{Node, input, value, task, reactive, event, text, plot, observe, on, Shape}

abbrev pub name_of : Node → List ℕ
name_of (input name start) = name
name_of (value name start) = name
name_of (task name parameters body) = name
name_of (reactive name keys body) = name
name_of (event name flags e body) = name
name_of (text name shown) = name
name_of (plot name shown) = name
name_of (observe name priority block) = name
name_of (on name priority flags e block) = name

-- ---- sorts of items

abbrev pub is_input : Node → Bool
is_input (input name start) = true
is_input _ = false

abbrev pub is_value : Node → Bool
is_value (value name start) = true
is_value _ = false

abbrev pub is_task : Node → Bool
is_task (task name parameters body) = true
is_task _ = false

abbrev pub is_expression : Node → Bool
is_expression (reactive name keys body) = true
is_expression (event name flags e body) = true
is_expression _ = false

abbrev pub is_output : Node → Bool
is_output (text name shown) = true
is_output (plot name shown) = true
is_output _ = false

abbrev pub is_observer : Node → Bool
is_observer (observe name priority block) = true
is_observer (on name priority flags e block) = true
is_observer _ = false

abbrev pub is_reader : Node → Bool
is_reader i = is_expression i || is_output i || is_observer i

-- it comes to something when it is evaluated; an observer does not
abbrev pub is_evaluated : Node → Bool
is_evaluated i = is_expression i || is_output i

-- ---- readers

-- the readers, by number: in the order of the text
abbrev pub readers : Shape → List Node
readers app = filter is_reader app.items

abbrev pub reader : Shape → ℕ → Option Node
reader app n = slice_get (readers app) n

-- ---- sources: the inputs, the values, the tasks, the widths and the heights of the outputs, each in the order of the text

abbrev pub declared_value : Node → SourceValue
declared_value (input name start) = Plain start
declared_value (value name start) = Plain start
declared_value (task name parameters body) = Task Initial
declared_value _ = Plain Null

-- the items that are sources themselves
abbrev pub declared_sources : List Node → List Node
declared_sources items = filter is_input items ++ filter is_value items ++ filter is_task items

-- a width or a height is NULL until the client tells it
abbrev pub unknown_sizes : List Node → List SourceValue
unknown_sizes items = map (λ i. Plain Null) (filter is_output items)

-- the values at which a session's sources start
abbrev pub starting_values : List Node → List SourceValue
starting_values items = map declared_value (declared_sources items) ++ unknown_sizes items ++ unknown_sizes items

abbrev pub output_count : List Node → ℕ
output_count items = length (filter is_output items)

-- for each of these readers how many outputs stand before it, where n stand before the first
abbrev pub outputs_before_each : ℕ → List Node → List ℕ
outputs_before_each n [] = []
outputs_before_each n (i ∷ more) = n ∷ outputs_before_each (if is_output i then suc n else n) more

-- where the sizes of the outputs stand among the sources: how many sources are no sizes, how many outputs there are, and for
-- each reader how many outputs stand before it
pub record SourceNumbers : Type 0 where
  pub declared : ℕ
  pub outputs : ℕ
  pub before : List ℕ

abbrev pub numbers_of : Shape → SourceNumbers
numbers_of app = record {
  declared = length (declared_sources app.items);
  outputs = output_count app.items;
  before = outputs_before_each 0 (readers app);
}

-- all outputs stand before a number behind the readers
abbrev pub outputs_before : SourceNumbers → ℕ → ℕ
outputs_before numbers n = unwrap_or (slice_get numbers.before n) numbers.outputs

-- the number of the source that is the width of the output of reader number n
abbrev pub width_at : SourceNumbers → ℕ → ℕ
width_at numbers n = numbers.declared + outputs_before numbers n

-- the heights follow the widths
abbrev pub height_at : SourceNumbers → ℕ → ℕ
height_at numbers n = width_at numbers n + numbers.outputs

abbrev pub width_source : Shape → ℕ → ℕ
width_source app n = width_at (numbers_of app) n

abbrev pub height_source : Shape → ℕ → ℕ
height_source app n = height_at (numbers_of app) n

-- ---- numbers by name

-- the number of the item of this name that `is` one of those sought, where of those that are `counted` the first has number n
abbrev pub number_from : (Node → Bool) → (Node → Bool) → ℕ → List ℕ → List Node → Option ℕ
number_from counted is n name [] = None
number_from counted is n name (i ∷ more) =
    if is i && bytes_eq name (name_of i) then Some n else number_from counted is (if counted i then suc n else n) name more

-- the source number of the input of this name
abbrev pub input_number : List ℕ → List Node → Option ℕ
input_number name items = number_from is_input is_input 0 name items

-- the reader number of the output of this name
abbrev pub output_number : List ℕ → List Node → Option ℕ
output_number name items = number_from is_reader is_output 0 name items

-- the place of the first item of this name among the items, from 0
abbrev pub place_of : List ℕ → List Node → Option ℕ
place_of name items = number_from (λ i. true) (λ i. true) 0 name items
