-- A read of a name that is declared in a sort that the read seeks is of one of the app's own sources, or of an expression.
use Rattle.std.proofs.Common.{◌≡◌, ◌<◌, ℕ, ◌+◌, true, List, ◌++◌, take, filter, length, Some, slice_get, refl, sym, ap, arith, length-append}
use Rattle.app_tree.specs.declared.item.Sort.{Sort}
use Rattle.app_tree.specs.declared.item.Sort.TheVariants as sort
use Rattle.app_tree.specs.declared.draft_term.ReadForm.{ReadForm}
use Rattle.app_tree.specs.declared.draft_term.ReadForm.TheVariants as form
use Rattle.app_tree.specs.Tree.{Node}
use Rattle.app_tree.specs.Numbering.{is_input, is_value, is_task, is_output, declared_sources, starting_values, output_count, numbers_of, outputs_before, width_source, height_source}
use Rattle.app_tree.specs.DraftTree.{DraftShape}
use Rattle.app_tree.specs.Declarations.{Declared, is_input_sort, is_value_sort, is_task_sort, is_output_sort, is_reader_sort, is_named_sort, declarations, count_of, number_at}
use Rattle.app_tree.specs.Resolve.{sought_by, read_to, resolved}
use Rattle.app_tree.proofs.SortLaws.{sources_counted, outputs_before_is}
use Rattle.app_laws.specs.Orderly.{ReadsSources}
use Rattle.app_laws.proofs.SortCounts.{sorts_kept, count_kept, outputs_kept, counted_within}

module _ (d : DraftShape) where
  abbrev table : List Declared
  table = declarations d.items

  abbrev items : List Node
  items = (resolved d).items

  -- ---- how many sources there are

  pub inputs_counted : length (filter is_input items) ≡ count_of is_input_sort table
  inputs_counted = count_kept is_input is_input_sort table (λ name f. (sorts_kept table name f).inputs) d.items

  pub values_counted : length (filter is_value items) ≡ count_of is_value_sort table
  values_counted = count_kept is_value is_value_sort table (λ name f. (sorts_kept table name f).values) d.items

  tasks_counted : length (filter is_task items) ≡ count_of is_task_sort table
  tasks_counted = count_kept is_task is_task_sort table (λ name f. (sorts_kept table name f).tasks) d.items

  outputs_counted : output_count items ≡ count_of is_output_sort table
  outputs_counted = count_kept is_output is_output_sort table (λ name f. (sorts_kept table name f).outputs) d.items

  declared_counted : length (declared_sources items) ≡ count_of is_input_sort table + count_of is_value_sort table + count_of is_task_sort table
  declared_counted =
      let front = length-append (filter is_input items) (filter is_value items) in
      let all = length-append (filter is_input items ++ filter is_value items) (filter is_task items) in
      omega (front, all, inputs_counted, values_counted, tasks_counted, arith)

  -- ---- the number of a source that is declared is one of them

  pub input_within : (j : ℕ) (e : Declared) (s : Sort) → slice_get table j ≡ Some e → s ≡ e.sort → is_input_sort s ≡ true → number_at table j s < length (starting_values items)
  input_within j e sort.Input stands same is =
      let few = counted_within is_input_sort table j e stands (ap is_input_sort (sym same)) in
      omega (few, declared_counted, sources_counted items, arith)
  input_within j e _ stands same is = absurd cc

  pub value_within : (j : ℕ) (e : Declared) (s : Sort) → slice_get table j ≡ Some e → s ≡ e.sort → is_value_sort s ≡ true → number_at table j s < length (starting_values items)
  value_within j e sort.Value stands same is =
      let few = counted_within is_value_sort table j e stands (ap is_value_sort (sym same)) in
      omega (few, declared_counted, sources_counted items, arith)
  value_within j e _ stands same is = absurd cc

  task_within : (j : ℕ) (e : Declared) (s : Sort) → slice_get table j ≡ Some e → s ≡ e.sort → is_task_sort s ≡ true → number_at table j s < length (starting_values items)
  task_within j e sort.Task stands same is =
      let few = counted_within is_task_sort table j e stands (ap is_task_sort (sym same)) in
      omega (few, declared_counted, sources_counted items, arith)
  task_within j e _ stands same is = absurd cc

  -- fewer outputs stand before an output than there are
  fewer_before : (j : ℕ) (e : Declared) → slice_get table j ≡ Some e → is_output_sort e.sort ≡ true → outputs_before (numbers_of (resolved d)) (count_of is_reader_sort (take j table)) < output_count items
  fewer_before j e stands is =
      let few = counted_within is_output_sort table j e stands is in
      let before = outputs_before_is (resolved d) (count_of is_reader_sort (take j table)) in
      let kept = outputs_kept table d.items j in
      omega (few, before, kept, outputs_counted, arith)

  width_within : (j : ℕ) (e : Declared) (s : Sort) → slice_get table j ≡ Some e → s ≡ e.sort → is_output_sort s ≡ true → width_source (resolved d) (number_at table j s) < length (starting_values items)
  width_within j e sort.Output stands same is =
      let fewer = fewer_before j e stands (ap is_output_sort (sym same)) in
      omega (fewer, sources_counted items, arith)
  width_within j e _ stands same is = absurd cc

  height_within : (j : ℕ) (e : Declared) (s : Sort) → slice_get table j ≡ Some e → s ≡ e.sort → is_output_sort s ≡ true → height_source (resolved d) (number_at table j s) < length (starting_values items)
  height_within j e sort.Output stands same is =
      let fewer = fewer_before j e stands (ap is_output_sort (sym same)) in
      omega (fewer, sources_counted items, arith)
  height_within j e _ stands same is = absurd cc

  named_within : (j : ℕ) (e : Declared) (s : Sort) → slice_get table j ≡ Some e → s ≡ e.sort → is_named_sort s ≡ true → ReadsSources (resolved d) (read_to form.Named s (number_at table j s))
  named_within j e sort.Value stands same is = value_within j e sort.Value stands same refl
  named_within j e sort.Expression stands same is = tt
  named_within j e _ stands same is = absurd cc

  -- what a read stands for, where a declaration was found that it seeks
  pub found_own : (j : ℕ) (e : Declared) (f : ReadForm) → slice_get table j ≡ Some e → sought_by f e.sort ≡ true → ReadsSources (resolved d) (read_to f e.sort (number_at table j e.sort))
  found_own j e form.Input stands is = input_within j e e.sort stands refl is
  found_own j e form.Named stands is = named_within j e e.sort stands refl is
  found_own j e form.Status stands is = task_within j e e.sort stands refl is
  found_own j e form.Result stands is = task_within j e e.sort stands refl is
  found_own j e form.Width stands is = width_within j e e.sort stands refl is
  found_own j e form.Height stands is = height_within j e e.sort stands refl is
