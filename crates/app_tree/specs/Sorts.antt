-- Sorts of items that belong together.
use Rattle.std.specs.Prelude.{Bool, true, List, filter}
use Rattle.app_tree.specs.declared.item.Sort.{Sort}
use Rattle.app_tree.specs.declared.sorts.Sorts.{Sorts}
use Rattle.app_tree.specs.declared.sorts.Sorts.TheVariants as sorts
use Rattle.app_tree.specs.Tree.{Node}
use Rattle.app_tree.specs.Declarations.{is_input_sort, is_value_sort, is_task_sort, is_named_sort, is_output_sort, is_reader_sort, sort_of_node}

abbrev pub sorts_of : Sorts → Sort → Bool
sorts_of sorts.Inputs = is_input_sort
sorts_of sorts.Values = is_value_sort
sorts_of sorts.Tasks = is_task_sort
sorts_of sorts.Named = is_named_sort
sorts_of sorts.Outputs = is_output_sort
sorts_of sorts.Readers = is_reader_sort
sorts_of sorts.Any = λ s. true

abbrev pub is_of : Sorts → Node → Bool
is_of of i = sorts_of of (sort_of_node i)

abbrev pub items_of : Sorts → List Node → List Node
items_of of items = filter (is_of of) items
