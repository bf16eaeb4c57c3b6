-- The values of the inputs, of the values and of the tasks are those of the sources that are items.
use Rattle.std.proofs.Common.{◌≡◌, List, ◌++◌, map, filter, sym, ap, ◌∙◌}
use Rattle.std.proofs.lemmas.List.{map-append}
use Rattle.app_tree.specs.declared.sorts.Sorts.TheVariants as sorts
use Rattle.app_tree.specs.Tree.{Node}
use Rattle.app_tree.specs.Numbering.{is_input, is_value, is_task, declared_sources, declared_value}
use Rattle.app_tree.specs.Sorts.{items_of}
use Rattle.app_tree.proofs.SortLaws.{inputs_are, values_are, tasks_are}

pub declared_are : (items : List Node) → (map declared_value (items_of sorts.Inputs items) ++ map declared_value (items_of sorts.Values items)) ++ map declared_value (items_of sorts.Tasks items) ≡ map declared_value (declared_sources items)
declared_are items = rw (inputs_are, values_are, tasks_are)
    (ap (λ front. front ++ map declared_value (filter is_task items)) (sym (map-append declared_value (filter is_input items) (filter is_value items)))
    ∙ sym (map-append declared_value (filter is_input items ++ filter is_value items) (filter is_task items)))
