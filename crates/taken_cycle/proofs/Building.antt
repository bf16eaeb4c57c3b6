-- What is known of the items of an app that is run today.
use Rattle.std.proofs.Common.{◌≡◌, ℕ, zero, suc, ◌≤◌, length, arith, Bool, true, false, List, [], ◌∷◌, filter, drop, Option, Some, None, refl, sym, ap, ◌∙◌}
use Rattle.std.specs.Prelude.{pos, not, ◌&&◌, is_some, slice_get, if◌then◌else◌}
use Rattle.std.specs.Ordering.{int_eq}
use Rattle.std.proofs.lemmas.Bool.Decides.{Decides-int_eq}
use Rattle.app_tree.specs.declared.term.Read.TheVariants as read
use Rattle.app_tree.specs.declared.term.Term.{Term}
use Rattle.app_tree.specs.View.{trees_of_terms}
use Rattle.app_tree.specs.Tree.{Tree, constant, group, get, variable, isolate, stop, require, fold, unary, binary, choice, call, Trees, no_trees, tree, Shown, Node, input, value, task, reactive, event, text, plot, observe, on}
use Rattle.app_tree.specs.Numbering.{name_of, is_reader}
use Rattle.app_tree.specs.Trace.{Every}
use Rattle.session_model.specs.State.{first_boards}
use Rattle.session_model.specs.Flush.{priority_of}
use Rattle.taken_cycle.specs.Built.{is_uncached, is_plain, input_read, shown_input, plain_shown, is_built, unbuilt_from, first_unbuilt, input_of_output}

first_true : (a b : Bool) → (a && b) ≡ true → a ≡ true
first_true true b e = refl
first_true false b e = cc

second_true : (a b : Bool) → (a && b) ≡ true → b ≡ true
second_true true b e = e
second_true false b e = cc

not_true : (b : Bool) → not b ≡ true → b ≡ false
not_true true e = cc
not_true false e = refl

chosen : {A : Type 0} (b : Bool) (o : Option A) (x : A) → (if b then o else None) ≡ Some x → (b ≡ true) × (o ≡ Some x)
chosen true o x e = (refl, e)
chosen false o x e = absurd cc

uncached_is : (keys : Trees) → is_uncached keys ≡ true → keys ≡ no_trees
uncached_is no_trees e = refl
uncached_is (tree key more) e = cc

pub some_keys : (ts : List Term) → 1 ≤ length ts → false ≡ is_uncached (trees_of_terms ts)
some_keys [] h = absurd (omega (arith, h))
some_keys (t ∷ ts) h = refl

read_is : (body : Tree) (s : ℕ) → input_read body ≡ Some s → body ≡ get (read.Input s)
read_is (get (read.Input t)) s e = let same : t ≡ s = cc in ap (λ n. get (read.Input n)) same
read_is (get (read.Value t)) s e = cc
read_is (get (read.Expr t)) s e = cc
read_is (get (read.Status t)) s e = cc
read_is (get (read.Result t)) s e = cc
read_is (get (read.Width t)) s e = cc
read_is (get (read.Height t)) s e = cc
read_is (constant x) s e = cc
read_is (group t) s e = cc
read_is (variable n) s e = cc
read_is (isolate site t) s e = cc
read_is (stop t) s e = cc
read_is (require t cancels) s e = cc
read_is (fold list start accumulator element body) s e = cc
read_is (unary op t) s e = cc
read_is (binary op a b) s e = cc
read_is (choice condition m n) s e = cc
read_is (call f ts) s e = cc

-- an output of the form has no priority, no cache, and reads one input
shown_is : (shown : Shown) (s : ℕ) → shown_input shown ≡ Some s → shown ≡ plain_shown s
shown_is shown s e =
    let found = chosen (is_plain shown) (input_read shown.body) s e in
    let plain = found.0 in
    let is_zero = int_eq shown.priority (pos 0) in
    let open_ = first_true is_zero (not shown.while_hidden) (first_true (is_zero && not shown.while_hidden) (is_uncached shown.keys) plain) in
    let priority : shown.priority ≡ pos 0 = (Decides-int_eq shown.priority (pos 0)).0 open_ in
    let hidden : shown.while_hidden ≡ false = not_true shown.while_hidden (second_true is_zero (not shown.while_hidden) (first_true (is_zero && not shown.while_hidden) (is_uncached shown.keys) plain)) in
    let keys : shown.keys ≡ no_trees = uncached_is shown.keys (second_true (is_zero && not shown.while_hidden) (is_uncached shown.keys) plain) in
    let body : shown.body ≡ get (read.Input s) = read_is shown.body s found.1 in
    λ i. record { priority = priority i; while_hidden = hidden i; keys = keys i; body = body i }

-- an item that shows an input is such an output
pub output_is : (i : Node) (s : ℕ) → input_of_output i ≡ Some s → i ≡ text (name_of i) (plain_shown s)
output_is (text name shown) s e = ap (text name) (shown_is shown s e)
output_is (input name start) s e = cc
output_is (value name start) s e = cc
output_is (task name parameters body) s e = cc
output_is (reactive name keys body) s e = cc
output_is (event name flags t body) s e = cc
output_is (plot name shown) s e = cc
output_is (observe name priority block) s e = cc
output_is (on name priority flags t block) s e = cc

some_none : {A : Type 0} (o : Option A) → o ≡ None → is_some o ≡ true → ⊥
some_none None e h = cc
some_none (Some x) e h = cc

-- an item that shows no input is an input itself
pub no_reader : (i : Node) → is_built i ≡ true → input_of_output i ≡ None → is_reader i ≡ false
no_reader (text name shown) h e = absurd (some_none (shown_input shown) e h)
no_reader (input name start) h e = refl
no_reader (value name start) h e = cc
no_reader (task name parameters body) h e = cc
no_reader (reactive name keys body) h e = cc
no_reader (event name flags t body) h e = cc
no_reader (plot name shown) h e = cc
no_reader (observe name priority block) h e = cc
no_reader (on name priority flags t block) h e = cc

head_built : (b : Bool) (n : ℕ) (o : Option ℕ) → (if b then o else Some n) ≡ None → b ≡ true
head_built true n o e = refl
head_built false n o e = cc

tail_built : (b : Bool) (n : ℕ) (o : Option ℕ) → (if b then o else Some n) ≡ None → o ≡ None
tail_built true n o e = e
tail_built false n o e = cc

pub first_built : (n : ℕ) (i : Node) (items : List Node) → unbuilt_from n (i ∷ items) ≡ None → is_built i ≡ true
first_built n i items h = head_built (is_built i) n (unbuilt_from (suc n) items) h

pub rest_built : (n : ℕ) (i : Node) (items : List Node) → unbuilt_from n (i ∷ items) ≡ None → unbuilt_from (suc n) items ≡ None
rest_built n i items h = tail_built (is_built i) n (unbuilt_from (suc n) items) h

built_from : (n : ℕ) (items : List Node) (p : ℕ) (i : Node) → unbuilt_from n items ≡ None → slice_get items p ≡ Some i → is_built i ≡ true
built_from n [] p i h e = cc
built_from n (j ∷ items) zero i h e = let same : j ≡ i = cc in ap is_built (sym same) ∙ first_built n j items h
built_from n (j ∷ items) (suc p) i h e = built_from (suc n) items p i (rest_built n j items h) e

pub built_at : (items : List Node) (p : ℕ) (i : Node) → first_unbuilt items ≡ None → slice_get items p ≡ Some i → is_built i ≡ true
built_at items p i h e = built_from 0 items p i h e

-- ---- all of the items

all_built : (n : ℕ) (items : List Node) → unbuilt_from n items ≡ None → Every (λ i. is_built i ≡ true) items
all_built n [] h = tt
all_built n (i ∷ items) h = (first_built n i items h, all_built (suc n) items (rest_built n i items h))

-- no item has a priority
abbrev pub IsOfNoPriority : Node → Type 0
IsOfNoPriority i = priority_of i ≡ pos 0

shown_priority : (shown : Shown) (o : Option ℕ) → shown_input shown ≡ o → is_some o ≡ true → shown.priority ≡ pos 0
shown_priority shown None e h = cc
shown_priority shown (Some s) e h = ap (λ (x : Shown). x.priority) (shown_is shown s e)

no_priority : (i : Node) → is_built i ≡ true → IsOfNoPriority i
no_priority (text name shown) h = shown_priority shown (shown_input shown) refl h
no_priority (input name start) h = refl
no_priority (value name start) h = cc
no_priority (task name parameters body) h = cc
no_priority (reactive name keys body) h = cc
no_priority (event name flags t body) h = cc
no_priority (plot name shown) h = cc
no_priority (observe name priority block) h = cc
no_priority (on name priority flags t block) h = cc

no_priorities : (items : List Node) → Every (λ i. is_built i ≡ true) items → Every IsOfNoPriority items
no_priorities [] h = tt
no_priorities (i ∷ items) h = (no_priority i h.0, no_priorities items h.1)

every_drop : {A : Type 0} (P : A → Type 0) (n : ℕ) (xs : List A) → Every P xs → Every P (drop n xs)
every_drop P zero xs h = h
every_drop P (suc n) [] h = tt
every_drop P (suc n) (x ∷ xs) h = every_drop P n xs h.1

every_kept : {A : Type 0} (P : A → Type 0) (b : Bool) (x : A) (xs : List A) → P x → Every P xs → Every P (if b then x ∷ xs else xs)
every_kept P true x xs p h = (p, h)
every_kept P false x xs p h = h

every_filter : {A : Type 0} (P : A → Type 0) (f : A → Bool) (xs : List A) → Every P xs → Every P (filter f xs)
every_filter P f [] h = tt
every_filter P f (x ∷ xs) h = every_kept P (f x) x (filter f xs) h.0 (every_filter P f xs h.1)

-- nor has a reader behind any place
pub no_priority_behind : (items : List Node) (p : ℕ) → first_unbuilt items ≡ None → Every IsOfNoPriority (filter is_reader (drop p items))
no_priority_behind items p h = every_filter IsOfNoPriority is_reader (drop p items) (every_drop IsOfNoPriority p items (no_priorities items (all_built 0 items h)))

no_boards_of : (items : List Node) → Every (λ i. is_built i ≡ true) items → first_boards items ≡ []
no_boards_of [] h = refl
no_boards_of (input name start ∷ items) h = no_boards_of items h.1
no_boards_of (text name shown ∷ items) h = no_boards_of items h.1
no_boards_of (value name start ∷ items) h = absurd cc
no_boards_of (task name parameters body ∷ items) h = absurd cc
no_boards_of (reactive name keys body ∷ items) h = absurd cc
no_boards_of (event name flags e body ∷ items) h = absurd cc
no_boards_of (plot name shown ∷ items) h = absurd cc
no_boards_of (observe name priority block ∷ items) h = absurd cc
no_boards_of (on name priority flags e block ∷ items) h = absurd cc

-- no item is a task
pub no_boards : (items : List Node) → first_unbuilt items ≡ None → first_boards items ≡ []
no_boards items h = no_boards_of items (all_built 0 items h)
