-- What is counted among items, in the words of their declarations.
use Rattle.std.proofs.Common.{◌≡◌, ℕ, ◌+◌, Bool, true, false, List, [], ◌∷◌, ◌++◌, length, map, filter, take, refl, sym, ap, ap₂, ◌∙◌, suc}
use Rattle.std.proofs.lemmas.List.{length-map, map-append, append_assoc, take-map}
use Rattle.std.proofs.lemmas.Option.{slice_get-map}
use Rattle.std.specs.Prelude.{Some, None, ◌||◌, ◌↔◌, bytes_eq, option_map, slice_get, if◌then◌else◌}
use Rattle.app_tree.specs.declared.item.Item.{Item}
use Rattle.app_tree.specs.declared.item.Sort.TheVariants as sort
use Rattle.app_tree.specs.declared.sorts.Sorts.{Sorts}
use Rattle.app_tree.specs.declared.sorts.Sorts.TheVariants as sorts
use Rattle.app_tree.specs.Tree.{Node}
use Rattle.app_tree.specs.View.{node_of}
use Rattle.app_tree.specs.Faults.{is_named_among}
use Rattle.app_tree.specs.Numbering.{name_of, number_from, place_of, is_input, is_value, is_task, declared_sources}
use Rattle.app_tree.specs.Declarations.{Declared, declared_by_node, node_declarations, those_of, count_of, number_at, name_in, source_declarations, source_name, reader_name}
use Rattle.app_tree.specs.Sorts.{sorts_of, is_of, items_of}
use Rattle.app_tree.proofs.SortLaws.{inputs_are, values_are, tasks_are}

map_if : (b : Bool) (i : Node) (xs : List Node) → (if b then declared_by_node i ∷ map declared_by_node xs else map declared_by_node xs) ≡ map declared_by_node (if b then i ∷ xs else xs)
map_if true i xs = refl
map_if false i xs = refl

-- the declarations of those of some sorts
those_declared : (of : Sorts) (items : List Node) → those_of (sorts_of of) (node_declarations items) ≡ map declared_by_node (items_of of items)
those_declared of [] = refl
those_declared of (i ∷ more) =
    ap (λ (rest : List Declared). if is_of of i then declared_by_node i ∷ rest else rest) (those_declared of more) ∙ map_if (is_of of i) i (items_of of more)

-- ---- numbers

counted : (of : Sorts) (items : List Item) → length (items_of of (map node_of items)) ≡ count_of (sorts_of of) (node_declarations (map node_of items))
counted of items = sym (length-map (items_of of (map node_of items)) declared_by_node) ∙ ap length (sym (those_declared of (map node_of items)))

counted_before : (of : Sorts) (k : ℕ) (items : List Item) → length (items_of of (map node_of (take k items))) ≡ count_of (sorts_of of) (take k (node_declarations (map node_of items)))
counted_before of k items =
    counted of (take k items)
    ∙ ap (λ is. count_of (sorts_of of) (node_declarations is)) (sym (take-map node_of k items))
    ∙ ap (count_of (sorts_of of)) (sym (take-map declared_by_node k (map node_of items)))

pub input_number_at : (k : ℕ) (items : List Item) → length (items_of sorts.Inputs (map node_of (take k items))) ≡ number_at (node_declarations (map node_of items)) k sort.Input
input_number_at k items = counted_before sorts.Inputs k items

pub value_number_at : (k : ℕ) (items : List Item) → length (items_of sorts.Inputs (map node_of items)) + length (items_of sorts.Values (map node_of (take k items))) ≡ number_at (node_declarations (map node_of items)) k sort.Value
value_number_at k items = ap₂ (λ m n. m + n) (counted sorts.Inputs items) (counted_before sorts.Values k items)

pub task_number_at : (k : ℕ) (items : List Item) → length (items_of sorts.Inputs (map node_of items)) + (length (items_of sorts.Values (map node_of items)) + length (items_of sorts.Tasks (map node_of (take k items)))) ≡ number_at (node_declarations (map node_of items)) k sort.Task
task_number_at k items = ap₂ (λ m n. m + n) (counted sorts.Inputs items) (ap₂ (λ m n. m + n) (counted sorts.Values items) (counted_before sorts.Tasks k items))

pub expression_number_at : (k : ℕ) (items : List Item) → length (items_of sorts.Readers (map node_of (take k items))) ≡ number_at (node_declarations (map node_of items)) k sort.Expression
expression_number_at k items = counted_before sorts.Readers k items

pub output_number_at : (k : ℕ) (items : List Item) → length (items_of sorts.Readers (map node_of (take k items))) ≡ number_at (node_declarations (map node_of items)) k sort.Output
output_number_at k items = counted_before sorts.Readers k items

pub observer_number_at : (k : ℕ) (items : List Item) → length (items_of sorts.Readers (map node_of (take k items))) ≡ number_at (node_declarations (map node_of items)) k sort.Observer
observer_number_at k items = counted_before sorts.Readers k items

-- ---- names

sources_declared : (items : List Node) → source_declarations (node_declarations items) ≡ map declared_by_node (declared_sources items)
sources_declared items =
    let inputs = those_declared sorts.Inputs items ∙ ap (λ is. map declared_by_node (filter is items)) inputs_are in
    let values = those_declared sorts.Values items ∙ ap (λ is. map declared_by_node (filter is items)) values_are in
    let tasks = those_declared sorts.Tasks items ∙ ap (λ is. map declared_by_node (filter is items)) tasks_are in
    ap₂ (λ xs ys. xs ++ ys) inputs (ap₂ (λ xs ys. xs ++ ys) values tasks)
    ∙ sym (append_assoc (map declared_by_node (filter is_input items)) (map declared_by_node (filter is_value items)) (map declared_by_node (filter is_task items)))
    ∙ ap (λ front. front ++ map declared_by_node (filter is_task items)) (sym (map-append declared_by_node (filter is_input items) (filter is_value items)))
    ∙ sym (map-append declared_by_node (filter is_input items ++ filter is_value items) (filter is_task items))

pub source_name_is : (items : List Node) (s : ℕ) → name_in (option_map declared_by_node (slice_get (declared_sources items) s)) ≡ source_name (node_declarations items) s
source_name_is items s =
    ap name_in (sym (slice_get-map declared_by_node (declared_sources items) s) ∙ ap (λ ds. slice_get ds s) (sym (sources_declared items)))

pub reader_name_is : (items : List Node) (n : ℕ) → name_in (option_map declared_by_node (slice_get (items_of sorts.Readers items) n)) ≡ reader_name (node_declarations items) n
reader_name_is items n =
    ap name_in (sym (slice_get-map declared_by_node (items_of sorts.Readers items) n) ∙ ap (λ ds. slice_get ds n) (sym (those_declared sorts.Readers items)))

-- ---- no item of a name

none_named : (n : ℕ) (name : List ℕ) (items : List Node) → (number_from (λ i. true) (λ i. true) n name items ≡ None) ↔ (is_named_among name (map name_of items) ≡ false)
none_named n name [] = (λ e. refl, λ e. refl)
none_named n name (i ∷ more) = by (bytes_eq name (name_of i)) (none_named (suc n) name more)
  where
    by : (b : Bool)
        → (number_from (λ i. true) (λ i. true) (suc n) name more ≡ None) ↔ (is_named_among name (map name_of more) ≡ false)
        → ((if b then Some n else number_from (λ i. true) (λ i. true) (suc n) name more) ≡ None) ↔ ((b || is_named_among name (map name_of more)) ≡ false)
    by true h = (λ e. absurd cc, λ e. absurd cc)
    by false h = h

pub not_named : (name : List ℕ) (items : List Node) → (place_of name items ≡ None) ↔ (is_named_among name (map name_of items) ≡ false)
not_named name items = none_named 0 name items
