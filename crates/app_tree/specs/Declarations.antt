-- What the items of an app file declare, and the numbers of what is declared.
use Rattle.std.specs.Prelude.{ℕ, suc, ◌+◌, Bool, true, false, ◌&&◌, List, [], ◌∷◌, ◌++◌, map, filter, take, length, Option, Some, None, slice_get, bytes_eq, if◌then◌else◌}
use Rattle.app_tree.specs.declared.item.Sort.{Sort}
use Rattle.app_tree.specs.declared.item.Sort.TheVariants as sort
use Rattle.app_tree.specs.Tree as app
use Rattle.app_tree.specs.Tree.{Node}
use Rattle.app_tree.specs.Numbering.{name_of}
use Rattle.app_tree.specs.DraftTree as draft
use Rattle.app_tree.specs.DraftTree.{WrittenForm, WrittenItem}

-- what one item declares; `parameters` is how many arguments an invocation of a task has, and 0 for all else
pub record Declared : Type 0 where
  pub name : List ℕ
  pub sort : Sort
  pub parameters : ℕ

-- ---- sorts

abbrev pub is_input_sort : Sort → Bool
is_input_sort sort.Input = true
is_input_sort _ = false

abbrev pub is_value_sort : Sort → Bool
is_value_sort sort.Value = true
is_value_sort _ = false

abbrev pub is_task_sort : Sort → Bool
is_task_sort sort.Task = true
is_task_sort _ = false

abbrev pub is_output_sort : Sort → Bool
is_output_sort sort.Output = true
is_output_sort _ = false

-- what is read by its name and brackets
abbrev pub is_named_sort : Sort → Bool
is_named_sort sort.Value = true
is_named_sort sort.Expression = true
is_named_sort _ = false

abbrev pub is_reader_sort : Sort → Bool
is_reader_sort sort.Expression = true
is_reader_sort sort.Output = true
is_reader_sort sort.Observer = true
is_reader_sort _ = false

-- ---- the declarations of a draft and of an app, in the order of the text

abbrev pub sort_of_form : WrittenForm → Sort
sort_of_form (draft.input start) = sort.Input
sort_of_form (draft.value start) = sort.Value
sort_of_form (draft.task parameters body) = sort.Task
sort_of_form (draft.reactive keys body) = sort.Expression
sort_of_form (draft.event flags e body) = sort.Expression
sort_of_form (draft.text shown) = sort.Output
sort_of_form (draft.plot shown) = sort.Output
sort_of_form (draft.observe priority block) = sort.Observer
sort_of_form (draft.on priority flags e block) = sort.Observer

abbrev pub parameter_count : WrittenForm → ℕ
parameter_count (draft.task parameters body) = length parameters
parameter_count _ = 0

abbrev pub declared_by : WrittenItem → Declared
declared_by i = record { name = i.name.text; sort = sort_of_form i.form; parameters = parameter_count i.form }

abbrev pub declarations : List WrittenItem → List Declared
declarations items = map declared_by items

abbrev pub sort_of_node : Node → Sort
sort_of_node (app.input name start) = sort.Input
sort_of_node (app.value name start) = sort.Value
sort_of_node (app.task name parameters body) = sort.Task
sort_of_node (app.reactive name keys body) = sort.Expression
sort_of_node (app.event name flags e body) = sort.Expression
sort_of_node (app.text name shown) = sort.Output
sort_of_node (app.plot name shown) = sort.Output
sort_of_node (app.observe name priority block) = sort.Observer
sort_of_node (app.on name priority flags e block) = sort.Observer

abbrev pub node_parameter_count : Node → ℕ
node_parameter_count (app.task name parameters body) = length parameters
node_parameter_count _ = 0

abbrev pub declared_by_node : Node → Declared
declared_by_node i = record { name = name_of i; sort = sort_of_node i; parameters = node_parameter_count i }

abbrev pub node_declarations : List Node → List Declared
node_declarations items = map declared_by_node items

-- ---- the declaration that a name stands for

-- the first declaration of this name and of a sort that is sought, with its place behind n others
abbrev pub declaration_from : ℕ → (Sort → Bool) → List ℕ → List Declared → Option (ℕ × Declared)
declaration_from n sought name [] = None
declaration_from n sought name (d ∷ more) =
    if sought d.sort && bytes_eq name d.name then Some (n, d) else declaration_from (suc n) sought name more

abbrev pub declaration : (Sort → Bool) → List ℕ → List Declared → Option (ℕ × Declared)
declaration sought name table = declaration_from 0 sought name table

-- ---- numbers

abbrev pub those_of : (Sort → Bool) → List Declared → List Declared
those_of counted table = filter (λ d. counted d.sort) table

abbrev pub count_of : (Sort → Bool) → List Declared → ℕ
count_of counted table = length (those_of counted table)

-- the number of the item at place k, which is of this sort: the source number of an input, a value or a task, the
-- reader number of an expression, an output or an observer
abbrev pub number_at : List Declared → ℕ → Sort → ℕ
number_at table k sort.Input = count_of is_input_sort (take k table)
number_at table k sort.Value = count_of is_input_sort table + count_of is_value_sort (take k table)
number_at table k sort.Task = count_of is_input_sort table + (count_of is_value_sort table + count_of is_task_sort (take k table))
number_at table k _ = count_of is_reader_sort (take k table)

-- ---- names of numbers

abbrev pub name_in : Option Declared → List ℕ
name_in (Some d) = d.name
name_in None = []

-- those that are sources themselves, by source number
abbrev pub source_declarations : List Declared → List Declared
source_declarations table = those_of is_input_sort table ++ (those_of is_value_sort table ++ those_of is_task_sort table)

abbrev pub source_name : List Declared → ℕ → List ℕ
source_name table s = name_in (slice_get (source_declarations table) s)

abbrev pub reader_name : List Declared → ℕ → List ℕ
reader_name table n = name_in (slice_get (those_of is_reader_sort table) n)
