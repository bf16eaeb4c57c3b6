-- What is counted by sorts, in the words of the numbering.
use Rattle.std.proofs.Common.{◌≡◌, ℕ, zero, suc, ◌+◌, Bool, true, false, List, [], ◌∷◌, ◌++◌, length, map, filter, take, refl, sym, ap, ◌∙◌, arith, length-append, add-zero, zero-add, ◌≤◌, ◌<◌, ◌-◌, subst}
use Rattle.std.proofs.lemmas.List.{length-map}
use Rattle.std.specs.Prelude.{slice_get, unwrap_or, if◌then◌else◌}
use Rattle.app_tree.specs.declared.item.Item.{Item}
use Rattle.app_tree.specs.declared.limits.TheConstants.{ITEM_LIMIT}
use Rattle.app_tree.specs.declared.sorts.Sorts.TheVariants as sorts
use Rattle.app_tree.specs.Tree.{Node, input, value, task, reactive, event, text, plot, observe, on, Shape}
use Rattle.app_tree.specs.Numbering.{is_input, is_value, is_task, is_output, is_reader, readers, reader, declared_sources, declared_value, unknown_sizes, starting_values, output_count, number_from, input_number, output_number, outputs_before_each, SourceNumbers, numbers_of, outputs_before}
use Rattle.app_tree.specs.Sorts.{is_of, items_of}
use Rattle.app_tree.specs.FewSources.{HasFew}
use Rattle.app_tree.specs.View.{node_of}

-- the sorts of the numbering, all by the same nine cases
record IsByKind (i : Node) : Type 0 where
  inputs : is_of sorts.Inputs i ≡ is_input i
  values : is_of sorts.Values i ≡ is_value i
  tasks : is_of sorts.Tasks i ≡ is_task i
  outputs : is_of sorts.Outputs i ≡ is_output i
  readers : is_of sorts.Readers i ≡ is_reader i

by_kind : (i : Node) → IsByKind i
by_kind (input name start) = record { inputs = refl; values = refl; tasks = refl; outputs = refl; readers = refl }
by_kind (value name start) = record { inputs = refl; values = refl; tasks = refl; outputs = refl; readers = refl }
by_kind (task name parameters body) = record { inputs = refl; values = refl; tasks = refl; outputs = refl; readers = refl }
by_kind (reactive name keys body) = record { inputs = refl; values = refl; tasks = refl; outputs = refl; readers = refl }
by_kind (event name flags e body) = record { inputs = refl; values = refl; tasks = refl; outputs = refl; readers = refl }
by_kind (text name shown) = record { inputs = refl; values = refl; tasks = refl; outputs = refl; readers = refl }
by_kind (plot name shown) = record { inputs = refl; values = refl; tasks = refl; outputs = refl; readers = refl }
by_kind (observe name priority block) = record { inputs = refl; values = refl; tasks = refl; outputs = refl; readers = refl }
by_kind (on name priority flags e block) = record { inputs = refl; values = refl; tasks = refl; outputs = refl; readers = refl }

pub inputs_are : is_of sorts.Inputs ≡ is_input
inputs_are = λ j. λ i. (by_kind i).inputs j

pub values_are : is_of sorts.Values ≡ is_value
values_are = λ j. λ i. (by_kind i).values j

pub tasks_are : is_of sorts.Tasks ≡ is_task
tasks_are = λ j. λ i. (by_kind i).tasks j

pub outputs_are : is_of sorts.Outputs ≡ is_output
outputs_are = λ j. λ i. (by_kind i).outputs j

pub readers_are : is_of sorts.Readers ≡ is_reader
readers_are = λ j. λ i. (by_kind i).readers j

-- ---- counts

pub readers_counted : (app : Shape) → length (items_of sorts.Readers app.items) ≡ length (readers app)
readers_counted app = ap (λ is. length (filter is app.items)) readers_are

pub outputs_counted : (items : List Node) → length (items_of sorts.Outputs items) ≡ output_count items
outputs_counted items = ap (λ is. length (filter is items)) outputs_are

three : (xs ys zs : List Node) → length (xs ++ ys ++ zs) ≡ length xs + length ys + length zs
three xs ys zs = omega (arith, length-append xs (ys ++ zs), length-append (xs ++ ys) zs, length-append xs ys, length-append ys zs)

pub declared_counted : (items : List Node) → length (items_of sorts.Inputs items) + length (items_of sorts.Values items) + length (items_of sorts.Tasks items) ≡ length (declared_sources items)
declared_counted items =
    rw (inputs_are, values_are, tasks_are) (sym (three (filter is_input items) (filter is_value items) (filter is_task items)))

sizes_counted : (items : List Node) → length (unknown_sizes items) ≡ output_count items
sizes_counted items = length-map (filter is_output items) _

pub sources_counted : (items : List Node) → length (declared_sources items) + output_count items + output_count items ≡ length (starting_values items)
sources_counted items =
    let a = length-map (declared_sources items) declared_value in
    let b = sizes_counted items in
    let c = length-append (map declared_value (declared_sources items)) (unknown_sizes items ++ unknown_sizes items) in
    let d = length-append (unknown_sizes items) (unknown_sizes items) in
    let e = length-append (map declared_value (declared_sources items) ++ unknown_sizes items) (unknown_sizes items) in
    let f = length-append (map declared_value (declared_sources items)) (unknown_sizes items) in
    omega (a, b, c, d, e, f, arith)

-- ---- found ones

pub reader_found : (app : Shape) (n : ℕ) → slice_get (items_of sorts.Readers app.items) n ≡ reader app n
reader_found app n = ap (λ is. slice_get (filter is app.items) n) readers_are

pub input_number_is : (name : List ℕ) (items : List Node) → number_from (is_of sorts.Inputs) (is_of sorts.Inputs) 0 name items ≡ input_number name items
input_number_is name items = ap (λ is. number_from is is 0 name items) inputs_are

pub output_number_is : (name : List ℕ) (items : List Node) → number_from (is_of sorts.Readers) (is_of sorts.Outputs) 0 name items ≡ output_number name items
output_number_is name items = ap (λ is. number_from is (is_of sorts.Outputs) 0 name items) readers_are ∙ ap (λ is. number_from is_reader is 0 name items) outputs_are

-- ---- outputs before a reader

outputs_read : (items : List Node) → output_count (filter is_reader items) ≡ output_count items
outputs_read [] = refl
outputs_read (input name start ∷ more) = outputs_read more
outputs_read (value name start ∷ more) = outputs_read more
outputs_read (task name parameters body ∷ more) = outputs_read more
outputs_read (reactive name keys body ∷ more) = outputs_read more
outputs_read (event name flags e body ∷ more) = outputs_read more
outputs_read (text name shown ∷ more) = ap suc (outputs_read more)
outputs_read (plot name shown ∷ more) = ap suc (outputs_read more)
outputs_read (observe name priority block ∷ more) = outputs_read more
outputs_read (on name priority flags e block ∷ more) = outputs_read more

one_more : (b : Bool) (i : Node) (more : List Node) (n : ℕ) → (if b then suc n else n) + length (filter is_output more) ≡ n + length (if b then i ∷ filter is_output more else filter is_output more)
one_more true i more n = omega arith
one_more false i more n = refl

before_is : (n : ℕ) (is : List Node) (k all : ℕ) → all ≡ n + output_count is → unwrap_or (slice_get (outputs_before_each n is) k) all ≡ n + output_count (take k is)
before_is n [] zero all h = h
before_is n [] (suc k) all h = h
before_is n (i ∷ is) zero all h = sym (add-zero n)
before_is n (i ∷ is) (suc k) all h =
    before_is (if is_output i then suc n else n) is k all (h ∙ sym (one_more (is_output i) i is n)) ∙ one_more (is_output i) i (take k is) n

pub outputs_before_is : (app : Shape) (n : ℕ) → outputs_before (numbers_of app) n ≡ output_count (take n (readers app))
outputs_before_is app n =
    before_is 0 (readers app) n (output_count app.items) (sym (outputs_read app.items) ∙ sym (zero-add (output_count (readers app))))
    ∙ zero-add (output_count (take n (readers app)))

-- ---- an app of few items has few sources

fewer : (b : Bool) (i : Node) (xs ys : List Node) → length xs ≤ length ys → length (if b then i ∷ xs else xs) ≤ length (if b then i ∷ ys else ys)
fewer true i xs ys h = omega (h, arith)
fewer false i xs ys h = h

taken_fewer : (n : ℕ) (items : List Node) → output_count (take n items) ≤ output_count items
taken_fewer zero items = omega arith
taken_fewer (suc n) [] = omega arith
taken_fewer (suc n) (i ∷ items) = fewer (is_output i) i (filter is_output (take n items)) (filter is_output items) (taken_fewer n items)

pub has_few : (numbers : SourceNumbers) (app : Shape) → numbers.declared ≤ ITEM_LIMIT → numbers.outputs ≤ ITEM_LIMIT → numbers.outputs ≡ output_count app.items → numbers.before ≡ outputs_before_each 0 (readers app) → HasFew numbers
has_few numbers app declared outputs outputs_same before_same = record {
  declared = declared;
  outputs = outputs;
  before = λ n.
      let is : outputs_before numbers n ≡ output_count (take n (readers app)) =
      ap (λ before. unwrap_or (slice_get before n) numbers.outputs) before_same
      ∙ ap (λ all. unwrap_or (slice_get (outputs_before_each 0 (readers app)) n) all) outputs_same ∙ outputs_before_is app n in
      let most : output_count (take n (readers app)) ≤ output_count (readers app) = taken_fewer n (readers app) in
      let all : output_count (readers app) ≡ output_count app.items = outputs_read app.items in
      omega (is, most, all, outputs_same, outputs, arith);
}

-- each item is of one sort
items_within : (items : List Node) → length (items_of sorts.Inputs items) + length (items_of sorts.Values items) + length (items_of sorts.Tasks items) ≤ length items
items_within [] = omega arith
items_within (input name start ∷ more) = let h = items_within more in omega (h, arith)
items_within (value name start ∷ more) = let h = items_within more in omega (h, arith)
items_within (task name parameters body ∷ more) = let h = items_within more in omega (h, arith)
items_within (reactive name keys body ∷ more) = let h = items_within more in omega (h, arith)
items_within (event name flags e body ∷ more) = let h = items_within more in omega (h, arith)
items_within (text name shown ∷ more) = let h = items_within more in omega (h, arith)
items_within (plot name shown ∷ more) = let h = items_within more in omega (h, arith)
items_within (observe name priority block ∷ more) = let h = items_within more in omega (h, arith)
items_within (on name priority flags e block ∷ more) = let h = items_within more in omega (h, arith)

pub declared_within : (items : List Item) → length (items_of sorts.Inputs (map node_of items)) + length (items_of sorts.Values (map node_of items)) + length (items_of sorts.Tasks (map node_of items)) ≤ length items
declared_within items = subst (λ n. length (items_of sorts.Inputs (map node_of items)) + length (items_of sorts.Values (map node_of items)) + length (items_of sorts.Tasks (map node_of items)) ≤ n) (length-map items node_of) (items_within (map node_of items))

-- ---- sources that are items

slice_get-front : {A : Type 0} (xs ys : List A) (n : ℕ) → n < length xs → slice_get (xs ++ ys) n ≡ slice_get xs n
slice_get-front [] ys n h = absurd (omega (h, arith))
slice_get-front (x ∷ xs) ys zero h = refl
slice_get-front (x ∷ xs) ys (suc n) h = slice_get-front xs ys n (omega (h, arith))

slice_get-behind : {A : Type 0} (xs ys : List A) (k n : ℕ) → n ≡ length xs + k → slice_get (xs ++ ys) n ≡ slice_get ys k
slice_get-behind [] ys k n h = ap (slice_get ys) (h ∙ zero-add k)
slice_get-behind (x ∷ xs) ys k zero h = absurd (omega (h, arith))
slice_get-behind (x ∷ xs) ys k (suc n) h = slice_get-behind xs ys k n (omega (h, arith))

pub source_is_input : (items : List Node) (n : ℕ) → n < length (items_of sorts.Inputs items) → slice_get (items_of sorts.Inputs items) n ≡ slice_get (declared_sources items) n
source_is_input items n h =
    let inputs : items_of sorts.Inputs items ≡ filter is_input items = ap (λ is. filter is items) inputs_are in
    let here : n < length (filter is_input items) = subst (λ (xs : List Node). n < length xs) inputs h in
    ap (λ xs. slice_get xs n) inputs
    ∙ sym (slice_get-front (filter is_input items ++ filter is_value items) (filter is_task items) n (omega (here, length-append (filter is_input items) (filter is_value items), arith))
    ∙ slice_get-front (filter is_input items) (filter is_value items) n here)

pub source_is_value : (items : List Node) (n : ℕ) → length (items_of sorts.Inputs items) ≤ n → n - length (items_of sorts.Inputs items) < length (items_of sorts.Values items) → slice_get (items_of sorts.Values items) (n - length (items_of sorts.Inputs items)) ≡ slice_get (declared_sources items) n
source_is_value items n past h =
    let inputs : items_of sorts.Inputs items ≡ filter is_input items = ap (λ is. filter is items) inputs_are in
    let values : items_of sorts.Values items ≡ filter is_value items = ap (λ is. filter is items) values_are in
    let m = ap length inputs in
    let v = ap length values in
    let both = length-append (filter is_input items) (filter is_value items) in
    ap (λ xs. slice_get xs (n - length (items_of sorts.Inputs items))) values
    ∙ sym (slice_get-front (filter is_input items ++ filter is_value items) (filter is_task items) n (omega (past, h, m, v, both, arith))
    ∙ slice_get-behind (filter is_input items) (filter is_value items) (n - length (items_of sorts.Inputs items)) n (omega (past, m, arith)))

pub source_is_task : (items : List Node) (n : ℕ) → length (items_of sorts.Inputs items) ≤ n → length (items_of sorts.Values items) ≤ n - length (items_of sorts.Inputs items) → slice_get (items_of sorts.Tasks items) (n - length (items_of sorts.Inputs items) - length (items_of sorts.Values items)) ≡ slice_get (declared_sources items) n
source_is_task items n past behind =
    let inputs : items_of sorts.Inputs items ≡ filter is_input items = ap (λ is. filter is items) inputs_are in
    let values : items_of sorts.Values items ≡ filter is_value items = ap (λ is. filter is items) values_are in
    let m = ap length inputs in
    let v = ap length values in
    let both = length-append (filter is_input items) (filter is_value items) in
    ap (λ is. slice_get (filter is items) (n - length (items_of sorts.Inputs items) - length (items_of sorts.Values items))) tasks_are
    ∙ sym (slice_get-behind (filter is_input items ++ filter is_value items) (filter is_task items) (n - length (items_of sorts.Inputs items) - length (items_of sorts.Values items)) n (omega (past, behind, m, v, both, arith)))
