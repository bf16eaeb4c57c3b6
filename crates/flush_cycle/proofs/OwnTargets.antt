-- What a name of a message stands for is one of the app's own sources, or one of its outputs.
use Rattle.std.proofs.Common.{◌≡◌, ◌<◌, ℕ, zero, suc, ◌+◌, Bool, true, false, ◌&&◌, cond, List, [], ◌∷◌, ◌++◌, filter, take, length, Option, Some, None, slice_get, bytes_eq, option_map, option_and_then, IfSome, codes, refl, sym, ap, ◌∙◌, subst, arith, length-append}
use Rattle.app_tree.specs.Tree.{Node, input, value, task, reactive, event, text, plot, observe, on, Shape}
use Rattle.app_tree.specs.Numbering.{name_of, is_input, is_output, is_reader, readers, reader, starting_values, output_count, numbers_of, outputs_before, width_source, height_source, number_from, input_number, output_number, is_value, is_task}
use Rattle.app_tree.proofs.SortLaws.{sources_counted, outputs_before_is}
use Rattle.app_laws.proofs.KnownLists.{get_in}
use Rattle.session_model.specs.Apply.{after_front, before_end, clientdata_output, Target, input as input_target, width, height, hidden, or_else, target_of}
use Rattle.flush_cycle.specs.inner.Applying.{IsTargetOf}

-- ---- what a search finds

-- the item that has the number
record IsFound (counted is : Node → Bool) (n : ℕ) (items : List Node) (m : ℕ) : Type 0 where
  behind : ℕ
  place : m ≡ n + behind
  item : Node
  stands : slice_get (filter counted items) behind ≡ Some item
  sought : is item ≡ true

found_from : (counted is : Node → Bool) → ((i : Node) → is i ≡ true → counted i ≡ true) → (n : ℕ) (name : List ℕ) (items : List Node)
    → IfSome (number_from counted is n name items) (IsFound counted is n items)
found_from counted is both n name [] = tt
found_from counted is both n name (i ∷ more) = decide (is i) (counted i) (bytes_eq name (name_of i)) refl refl
    (found_from counted is both (suc n) name more) (found_from counted is both n name more)
  where
    past : (m : ℕ) → counted i ≡ true → IsFound counted is (suc n) more m → IsFound counted is n (i ∷ more) m
    past m holds f = record {
      behind = suc f.behind;
      place = let p = f.place in omega (p, arith);
      item = f.item;
      stands = ap (λ b. slice_get (cond b (i ∷ filter counted more) (filter counted more)) (suc f.behind)) holds ∙ f.stands;
      sought = f.sought;
    }

    beside : (m : ℕ) → counted i ≡ false → IsFound counted is n more m → IsFound counted is n (i ∷ more) m
    beside m fails f = record {
      behind = f.behind;
      place = f.place;
      item = f.item;
      stands = ap (λ b. slice_get (cond b (i ∷ filter counted more) (filter counted more)) f.behind) fails ∙ f.stands;
      sought = f.sought;
    }

    here : is i ≡ true → IsFound counted is n (i ∷ more) n
    here holds = record {
      behind = 0;
      place = omega arith;
      item = i;
      stands = ap (λ b. slice_get (cond b (i ∷ filter counted more) (filter counted more)) 0) (both i holds);
      sought = holds;
    }

    each : (o : Option ℕ) (P Q : ℕ → Type 0) → ((m : ℕ) → P m → Q m) → IfSome o P → IfSome o Q
    each None P Q f h = tt
    each (Some m) P Q f h = f m h

    rest : (c : Bool) → counted i ≡ c
        → IfSome (number_from counted is (suc n) name more) (IsFound counted is (suc n) more)
        → IfSome (number_from counted is n name more) (IsFound counted is n more)
        → IfSome (number_from counted is (cond c (suc n) n) name more) (IsFound counted is n (i ∷ more))
    rest true at one none = each (number_from counted is (suc n) name more) (IsFound counted is (suc n) more) (IsFound counted is n (i ∷ more)) (λ m. past m at) one
    rest false at one none = each (number_from counted is n name more) (IsFound counted is n more) (IsFound counted is n (i ∷ more)) (λ m. beside m at) none

    decide : (s c b : Bool) → is i ≡ s → counted i ≡ c
        → IfSome (number_from counted is (suc n) name more) (IsFound counted is (suc n) more)
        → IfSome (number_from counted is n name more) (IsFound counted is n more)
        → IfSome (cond (s && b) (Some n) (number_from counted is (cond c (suc n) n) name more)) (IsFound counted is n (i ∷ more))
    decide true c true s at one none = here s
    decide true c false s at one none = rest c at one none
    decide false c true s at one none = rest c at one none
    decide false c false s at one none = rest c at one none

-- ---- outputs

output_read : (i : Node) → is_output i ≡ true → is_reader i ≡ true
output_read (text name shown) h = refl
output_read (plot name shown) h = refl
output_read _ h = absurd cc

outputs_read : (items : List Node) → output_count (filter is_reader items) ≡ output_count items
outputs_read [] = refl
outputs_read (input name start ∷ more) = outputs_read more
outputs_read (value name start ∷ more) = outputs_read more
outputs_read (task name parameters body ∷ more) = outputs_read more
outputs_read (reactive name keys body ∷ more) = outputs_read more
outputs_read (event name flags e body ∷ more) = outputs_read more
outputs_read (text name shown ∷ more) = ap suc (outputs_read more)
outputs_read (plot name shown ∷ more) = ap suc (outputs_read more)
outputs_read (observe name priority block ∷ more) = outputs_read more
outputs_read (on name priority flags e block ∷ more) = outputs_read more

-- fewer outputs stand before an output than there are
fewer_before : (xs : List Node) (k : ℕ) (i : Node) → slice_get xs k ≡ Some i → is_output i ≡ true
    → length (filter is_output (take k xs)) < length (filter is_output xs)
fewer_before [] k i stands output = absurd cc
fewer_before (x ∷ xs) zero i stands output =
    let same : x ≡ i = cc in
    let first : length (filter is_output (x ∷ xs)) ≡ suc (length (filter is_output xs)) =
    ap (λ b. length (cond b (x ∷ filter is_output xs) (filter is_output xs))) (ap is_output same ∙ output) in
    omega (first, arith)
fewer_before (x ∷ xs) (suc k) i stands output = one (is_output x) (fewer_before xs k i stands output)
  where
    one : (b : Bool) → length (filter is_output (take k xs)) < length (filter is_output xs)
        → length (cond b (x ∷ filter is_output (take k xs)) (filter is_output (take k xs))) < length (cond b (x ∷ filter is_output xs) (filter is_output xs))
    one true h = omega (h, arith)
    one false h = h

record IsOwnOutput (app : Shape) (n : ℕ) : Type 0 where
  within : n < length (readers app)
  before : outputs_before (numbers_of app) n < output_count app.items

own_output : (app : Shape) (n : ℕ) (i : Node) → reader app n ≡ Some i → is_output i ≡ true → IsOwnOutput app n
own_output app n i stands output = record {
  within = get_in (readers app) n i stands;
  before =
      let few = fewer_before (readers app) n i stands output in
      let is = outputs_before_is app n in
      let all = outputs_read app.items in
      omega (few, is, all, arith);
}

own_width : (app : Shape) (n : ℕ) → IsOwnOutput app n → width_source app n < length (starting_values app.items)
own_width app n own = let before = own.before in let all = sources_counted app.items in omega (before, all, arith)

own_height : (app : Shape) (n : ℕ) → IsOwnOutput app n → height_source app n < length (starting_values app.items)
own_height app n own = let before = own.before in let all = sources_counted app.items in omega (before, all, arith)

output_owned : (app : Shape) (name : List ℕ) → IfSome (output_number name app.items) (IsOwnOutput app)
output_owned app name = by (output_number name app.items) (found_from is_reader is_output output_read 0 name app.items)
  where
    by : (o : Option ℕ) → IfSome o (IsFound is_reader is_output 0 app.items) → IfSome o (IsOwnOutput app)
    by None h = tt
    by (Some m) h =
        let at : h.behind ≡ m = (let p = h.place in omega (p, arith)) in
        own_output app m h.item (ap (slice_get (readers app)) (sym at) ∙ h.stands) h.sought

-- ---- inputs

input_owned : (app : Shape) (name : List ℕ) → IfSome (input_number name app.items) (λ s. s < length (starting_values app.items))
input_owned app name = by (input_number name app.items) (found_from is_input is_input (λ i h. h) 0 name app.items)
  where
    by : (o : Option ℕ) → IfSome o (IsFound is_input is_input 0 app.items) → IfSome o (λ s. s < length (starting_values app.items))
    by None h = tt
    by (Some m) h =
        let inside = get_in (filter is_input app.items) h.behind h.item h.stands in
        let place = h.place in
        let inputs = length-append (filter is_input app.items) (filter is_value app.items) in
        let tasks = length-append (filter is_input app.items ++ filter is_value app.items) (filter is_task app.items) in
        let all = sources_counted app.items in
        omega (inside, place, inputs, tasks, all, arith)

-- ---- targets

either : (P : Target → Type 0) (a b : Option Target) → IfSome a P → IfSome b P → IfSome (or_else a b) P
either P None b h k = k
either P (Some t) b h k = h

mapped : (P : Target → Type 0) (f : ℕ → Target) (o : Option ℕ) → IfSome o (λ n. P (f n)) → IfSome (option_map f o) P
mapped P f None h = tt
mapped P f (Some n) h = h

client_owned : (app : Shape) (end name : List ℕ) → IfSome (clientdata_output end name app.items) (IsOwnOutput app)
client_owned app end name = by (option_and_then (before_end end) (after_front (codes ".clientdata_output_") name))
  where
    by : (o : Option (List ℕ)) → IfSome (option_and_then (λ output. output_number output app.items) o) (IsOwnOutput app)
    by None = tt
    by (Some output) = output_owned app output

client_target : (app : Shape) (f : ℕ → Target) (end name : List ℕ) → ((n : ℕ) → IsOwnOutput app n → IsTargetOf app (f n))
    → IfSome (option_map f (clientdata_output end name app.items)) (IsTargetOf app)
client_target app f end name own = by (clientdata_output end name app.items) (client_owned app end name)
  where
    by : (o : Option ℕ) → IfSome o (IsOwnOutput app) → IfSome (option_map f o) (IsTargetOf app)
    by None h = tt
    by (Some n) h = own n h

pub own_target : (app : Shape) (name : List ℕ) → IfSome (target_of name app.items) (IsTargetOf app)
own_target app name =
    either (IsTargetOf app) (option_map input_target (input_number name app.items)) (or_else (option_map width (clientdata_output (codes "_width") name app.items)) (or_else (option_map height (clientdata_output (codes "_height") name app.items)) (option_map hidden (clientdata_output (codes "_hidden") name app.items))))
    (mapped (IsTargetOf app) input_target (input_number name app.items) (input_owned app name))
    (either (IsTargetOf app) (option_map width (clientdata_output (codes "_width") name app.items)) (or_else (option_map height (clientdata_output (codes "_height") name app.items)) (option_map hidden (clientdata_output (codes "_hidden") name app.items)))
    (client_target app width (codes "_width") name (own_width app))
    (either (IsTargetOf app) (option_map height (clientdata_output (codes "_height") name app.items)) (option_map hidden (clientdata_output (codes "_hidden") name app.items))
    (client_target app height (codes "_height") name (own_height app))
    (client_target app hidden (codes "_hidden") name (λ n own. own.within))))

-- so is one that was found
pub found_target : (app : Shape) (name : List ℕ) (t : Target) → Some t ≡ target_of name app.items → IsTargetOf app t
found_target app name t is = subst (λ o. IfSome o (IsTargetOf app)) (sym is) (own_target app name)
