-- The app that a draft stands for, where no check refuses the draft, is written as that draft: its names stand for the
-- numbers that they were resolved to.
use Rattle.std.proofs.Common.{◌≡◌, ℕ, suc, ◌+◌, Bool, true, false, List, [], ◌∷◌, ◌++◌, map, Option, Some, None, slice_get, refl, sym, ◌∙◌, ap, subst}
use Rattle.std.specs.Prelude.{is_none}
use Rattle.std.proofs.lemmas.List.{length-map}
use Rattle.app_tree.specs.declared.item.Sort.{Sort}
use Rattle.app_tree.specs.declared.item.Sort.TheVariants as sort
use Rattle.app_tree.specs.declared.refusal.Fault.TheVariants as fault
use Rattle.app_tree.specs.declared.draft_term.Name.{Name}
use Rattle.app_tree.specs.declared.draft_term.ReadForm.{ReadForm}
use Rattle.app_tree.specs.declared.draft_term.ReadForm.TheVariants as form
use Rattle.app_tree.specs.Numbering.{name_of}
use Rattle.app_tree.specs.DraftTree as draft
use Rattle.app_tree.specs.DraftTree.{DraftTree, DraftTrees, DraftDeed, WrittenDeed, DraftAct, DraftActs, WrittenBody, WrittenOutput, WrittenForm, WrittenItem, DraftShape}
use Rattle.app_tree.specs.Declarations.{Declared, is_input_sort, is_value_sort, is_task_sort, is_named_sort, is_output_sort, is_reader_sort, declaration, declarations, declared_by, node_declarations, declared_by_node, sort_of_form, parameter_count, number_at, source_name, reader_name}
use Rattle.app_tree.specs.Resolve.{text_of_name, sought_by, innermost, number_or_zero, number_named, named_read, read_to, resolved_read, draft_site_count, draft_site_count_all, act_site_count, acts_site_count, resolved_tree, resolved_trees, resolved_deed, resolved_act, resolved_acts, resolved_output, resolved_form, resolved_item, resolved}
use Rattle.app_tree.specs.Faults.{name_refused, unknown_name, unbound_variable, in_task_fault, forward_read, isolate_in_fold, fold_too_deep, same_variables, argument_count_fault, tree_count, Spot, in_last_part, term_faults, terms_faults, deed_faults, act_faults, acts_faults, writes_faults, body_faults, output_faults, form_faults, item_faults, items_faults, faults, item_too_many, second_item, repeated_names, spot_in, in_task, in_expression, elsewhere}
use Rattle.app_tree.specs.Named.{unplaced_name, named_form, name_of_read, variable_name, named_tree, named_trees, named_act, named_acts, named_body, named_output, named_node, named_item, named}
use Rattle.app_tree.specs.Unplaced.{unplaced_of, unplaced_tree, unplaced_trees, unplaced_deed, unplaced_act, unplaced_acts, unplaced_body, unplaced_output, unplaced_form, unplaced_item, unplaced}
use Rattle.app_tree.proofs.NoFaults.{nothing_left, nothing_right, holds_not, all_pass}
use Rattle.app_tree.proofs.Numbers.{Finds, finds, input_name, value_name, task_name, reader_name_at, innermost_name}

-- ---- names that are declared

some_of : {A : Type 0} (o : Option A) (P : Type 0) → is_none o ≡ false → ((x : A) → o ≡ Some x → P) → P
some_of None P e f = absurd cc
some_of (Some x) P e f = f x refl

input_sort : (s : Sort) → is_input_sort s ≡ true → s ≡ sort.Input
input_sort sort.Input e = refl
input_sort sort.Value e = absurd cc
input_sort sort.Task e = absurd cc
input_sort sort.Expression e = absurd cc
input_sort sort.Output e = absurd cc
input_sort sort.Observer e = absurd cc

value_sort : (s : Sort) → is_value_sort s ≡ true → s ≡ sort.Value
value_sort sort.Input e = absurd cc
value_sort sort.Value e = refl
value_sort sort.Task e = absurd cc
value_sort sort.Expression e = absurd cc
value_sort sort.Output e = absurd cc
value_sort sort.Observer e = absurd cc

task_sort : (s : Sort) → is_task_sort s ≡ true → s ≡ sort.Task
task_sort sort.Input e = absurd cc
task_sort sort.Value e = absurd cc
task_sort sort.Task e = refl
task_sort sort.Expression e = absurd cc
task_sort sort.Output e = absurd cc
task_sort sort.Observer e = absurd cc

output_sort : (s : Sort) → is_output_sort s ≡ true → s ≡ sort.Output
output_sort sort.Input e = absurd cc
output_sort sort.Value e = absurd cc
output_sort sort.Task e = absurd cc
output_sort sort.Expression e = absurd cc
output_sort sort.Output e = refl
output_sort sort.Observer e = absurd cc

-- the read of what was found has the form and the name
record IsReadBy (table : List Declared) (f : ReadForm) (found : ℕ × Declared) : Type 0 where
  reads : named_form (read_to f found.1.sort (number_at table found.0 found.1.sort)) ≡ f
  calls : name_of_read table (read_to f found.1.sort (number_at table found.0 found.1.sort)) ≡ found.1.name

input_found : (table : List Declared) (k : ℕ) (d : Declared) (s : Sort) → Finds is_input_sort d.name table (k, d) → s ≡ d.sort → source_name table (number_at table k s) ≡ d.name
input_found table k d s found e =
    let is : s ≡ sort.Input = e ∙ input_sort d.sort found.is in
    rw is (input_name table k d found.stands found.is)

value_found : (table : List Declared) (k : ℕ) (d : Declared) (s : Sort) → Finds is_value_sort d.name table (k, d) → s ≡ d.sort → source_name table (number_at table k s) ≡ d.name
value_found table k d s found e =
    let is : s ≡ sort.Value = e ∙ value_sort d.sort found.is in
    rw is (value_name table k d found.stands found.is)

task_found : (table : List Declared) (k : ℕ) (d : Declared) (s : Sort) → Finds is_task_sort d.name table (k, d) → s ≡ d.sort → source_name table (number_at table k s) ≡ d.name
task_found table k d s found e =
    let is : s ≡ sort.Task = e ∙ task_sort d.sort found.is in
    rw is (task_name table k d found.stands found.is)

output_found : (table : List Declared) (k : ℕ) (d : Declared) (s : Sort) → Finds is_output_sort d.name table (k, d) → s ≡ d.sort → reader_name table (number_at table k s) ≡ d.name
output_found table k d s found e =
    let is : s ≡ sort.Output = e ∙ output_sort d.sort found.is in
    let reads : is_reader_sort d.sort ≡ true = ap is_reader_sort (output_sort d.sort found.is) in
    rw is (reader_name_at table k d found.stands reads)

named_found : (table : List Declared) (k : ℕ) (d : Declared) (s : Sort) → slice_get table k ≡ Some d → is_named_sort s ≡ true → s ≡ d.sort → name_of_read table (named_read s (number_at table k s)) ≡ d.name
named_found table k d sort.Input stands is e = absurd cc
named_found table k d sort.Value stands is e = value_name table k d stands (ap is_value_sort (sym e))
named_found table k d sort.Task stands is e = absurd cc
named_found table k d sort.Expression stands is e = reader_name_at table k d stands (ap is_reader_sort (sym e))
named_found table k d sort.Output stands is e = absurd cc
named_found table k d sort.Observer stands is e = absurd cc

named_is : (s : Sort) (n : ℕ) → named_form (named_read s n) ≡ form.Named
named_is sort.Input n = refl
named_is sort.Value n = refl
named_is sort.Task n = refl
named_is sort.Expression n = refl
named_is sort.Output n = refl
named_is sort.Observer n = refl

read_back : (table : List Declared) (f : ReadForm) (k : ℕ) (d : Declared) → Finds (sought_by f) d.name table (k, d) → IsReadBy table f (k, d)
read_back table form.Input k d found = record { reads = refl; calls = input_found table k d d.sort found refl }
read_back table form.Named k d found = record { reads = named_is d.sort (number_at table k d.sort); calls = named_found table k d d.sort found.stands found.is refl }
read_back table form.Status k d found = record { reads = refl; calls = task_found table k d d.sort found refl }
read_back table form.Result k d found = record { reads = refl; calls = task_found table k d d.sort found refl }
read_back table form.Width k d found = record { reads = refl; calls = output_found table k d d.sort found refl }
read_back table form.Height k d found = record { reads = refl; calls = output_found table k d d.sort found refl }

by_own_name : (sought : Sort → Bool) (name : List ℕ) (table : List Declared) (found : ℕ × Declared) → Finds sought name table found → Finds sought found.1.name table found
by_own_name sought name table found h = record { stands = h.stands; is = h.is; named = refl }

read_named : (table : List Declared) (f : ReadForm) (n : Name) → unknown_name table (sought_by f) n ≡ []
    → draft.read (named_form (resolved_read table f n.text)) 0 (unplaced_name (name_of_read table (resolved_read table f n.text))) ≡ draft.read f 0 (unplaced_of n)
read_named table f n none =
    some_of (declaration (sought_by f) n.text table) (draft.read (named_form (resolved_read table f n.text)) 0 (unplaced_name (name_of_read table (resolved_read table f n.text))) ≡ draft.read f 0 (unplaced_of n))
    (holds_not (is_none (declaration (sought_by f) n.text table)) (name_refused fault.NameUnknown n) none)
    (λ found e.
    let h = finds (sought_by f) n.text table found e in
    let r = read_back table f found.0 found.1 (by_own_name (sought_by f) n.text table found h) in
    rw e (rw (r.reads, r.calls) (ap (λ text. draft.read f 0 (unplaced_name text)) (sym h.named))))

target_named : (table : List Declared) (sought : Sort → Bool) (n : Name) → ((k : ℕ) (d : Declared) → Finds sought d.name table (k, d) → source_name table (number_at table k d.sort) ≡ d.name) → unknown_name table sought n ≡ []
    → source_name table (number_named table sought n.text) ≡ n.text
target_named table sought n back none =
    some_of (declaration sought n.text table) (source_name table (number_named table sought n.text) ≡ n.text)
    (holds_not (is_none (declaration sought n.text table)) (name_refused fault.NameUnknown n) none)
    (λ found e.
    let h = finds sought n.text table found e in
    rw e (back found.0 found.1 (by_own_name sought n.text table found h) ∙ sym h.named))

value_target : (table : List Declared) (n : Name) → unknown_name table is_value_sort n ≡ [] → source_name table (number_named table is_value_sort n.text) ≡ n.text
value_target table n none = target_named table is_value_sort n (λ k d h. value_found table k d d.sort h refl) none

task_target : (table : List Declared) (n : Name) → unknown_name table is_task_sort n ≡ [] → source_name table (number_named table is_task_sort n.text) ≡ n.text
task_target table n none = target_named table is_task_sort n (λ k d h. task_found table k d d.sort h refl) none

input_target : (table : List Declared) (n : Name) → unknown_name table is_input_sort n ≡ [] → source_name table (number_named table is_input_sort n.text) ≡ n.text
input_target table n none = target_named table is_input_sort n (λ k d h. input_found table k d d.sort h refl) none

variable_named : (spot : Spot) (n : Name) → unbound_variable spot n ≡ [] → draft.variable (unplaced_name (variable_name spot.scope (number_or_zero (innermost n.text spot.scope)))) ≡ draft.variable (unplaced_of n)
variable_named spot n none =
    some_of (innermost n.text spot.scope) (draft.variable (unplaced_name (variable_name spot.scope (number_or_zero (innermost n.text spot.scope)))) ≡ draft.variable (unplaced_of n))
    (holds_not (is_none (innermost n.text spot.scope)) (name_refused fault.NameUnknown n) none)
    (λ k e. rw e (ap (λ text. draft.variable (unplaced_name text)) (innermost_name n.text spot.scope k e)))

-- ---- terms

mutual
  term_named : (spot : Spot) (n : ℕ) (t : DraftTree) → term_faults spot t ≡ [] → named_tree spot.table spot.scope (resolved_tree spot.table spot.scope n t) ≡ unplaced_tree t
  term_named spot n (draft.constant x) none = refl
  term_named spot n (draft.group t) none = ap draft.group (term_named spot n t none)
  term_named spot n (draft.read f place name) none =
      read_named spot.table f name (nothing_left (unknown_name spot.table (sought_by f) name) (in_task_fault spot place ++ forward_read spot f name) none)
  term_named spot n (draft.variable name) none = variable_named spot name none
  term_named spot n (draft.isolate place t) none =
      ap (draft.isolate 0) (term_named spot (suc n) t (nothing_right (in_task_fault spot place ++ isolate_in_fold spot place) (term_faults spot t) none))
  term_named spot n (draft.stop t) none = ap draft.stop (term_named spot n t none)
  term_named spot n (draft.require t cancels) none = ap (λ s. draft.require s cancels) (term_named spot n t none)
  term_named spot n (draft.fold place list start accumulator element body) none =
      let inside = in_last_part spot accumulator element in
      let parts = nothing_right (fold_too_deep spot place ++ same_variables accumulator element) (term_faults spot list ++ (term_faults spot start ++ term_faults inside body)) none in
      let further = nothing_right (term_faults spot list) (term_faults spot start ++ term_faults inside body) parts in
      let a = term_named spot n list (nothing_left (term_faults spot list) (term_faults spot start ++ term_faults inside body) parts) in
      let b = term_named spot (n + draft_site_count list) start (nothing_left (term_faults spot start) (term_faults inside body) further) in
      let c = term_named inside (n + draft_site_count list + draft_site_count start) body (nothing_right (term_faults spot start) (term_faults inside body) further) in
      rw (a, b, c) refl
  term_named spot n (draft.unary op t) none = ap (draft.unary op) (term_named spot n t none)
  term_named spot n (draft.binary op a b) none =
      rw (
        term_named spot n a (nothing_left (term_faults spot a) (term_faults spot b) none),
        term_named spot (n + draft_site_count a) b (nothing_right (term_faults spot a) (term_faults spot b) none),
      ) refl
  term_named spot n (draft.choice condition chosen otherwise) none =
      let ways = nothing_right (term_faults spot condition) (term_faults spot chosen ++ term_faults spot otherwise) none in
      rw (
        term_named spot n condition (nothing_left (term_faults spot condition) (term_faults spot chosen ++ term_faults spot otherwise) none),
        term_named spot (n + draft_site_count condition) chosen (nothing_left (term_faults spot chosen) (term_faults spot otherwise) ways),
        term_named spot (n + draft_site_count condition + draft_site_count chosen) otherwise (nothing_right (term_faults spot chosen) (term_faults spot otherwise) ways),
      ) refl
  term_named spot n (draft.call f ts) none = ap (draft.call f) (terms_named spot n ts none)

  terms_named : (spot : Spot) (n : ℕ) (ts : DraftTrees) → terms_faults spot ts ≡ [] → named_trees spot.table spot.scope (resolved_trees spot.table spot.scope n ts) ≡ unplaced_trees ts
  terms_named spot n draft.no_trees none = refl
  terms_named spot n (draft.tree t more) none =
      rw (
        term_named spot n t (nothing_left (term_faults spot t) (terms_faults spot more) none),
        terms_named spot (n + draft_site_count t) more (nothing_right (term_faults spot t) (terms_faults spot more) none),
      ) refl

-- ---- statements

deed_named : (table : List Declared) (k n : ℕ) (d : DraftDeed) → deed_faults (spot_in table k elsewhere []) d ≡ [] → named_act table (resolved_deed table n d) ≡ draft.write (record { place = 0; deed = unplaced_deed d })
deed_named table k n (draft.set name t) none =
    let spot = spot_in table k elsewhere [] in
    rw (
      value_target table name (nothing_left (unknown_name table is_value_sort name) (term_faults spot t) none),
      term_named spot n t (nothing_right (unknown_name table is_value_sort name) (term_faults spot t) none),
    ) refl
deed_named table k n (draft.invoke name ts) none =
    let spot = spot_in table k elsewhere [] in
    let first = nothing_left (unknown_name table is_task_sort name ++ argument_count_fault table name (tree_count ts)) (terms_faults spot ts) none in
    rw (
      task_target table name (nothing_left (unknown_name table is_task_sort name) (argument_count_fault table name (tree_count ts)) first),
      terms_named spot n ts (nothing_right (unknown_name table is_task_sort name ++ argument_count_fault table name (tree_count ts)) (terms_faults spot ts) none),
    ) refl
deed_named table k n (draft.update name t) none =
    let spot = spot_in table k elsewhere [] in
    rw (
      input_target table name (nothing_left (unknown_name table is_input_sort name) (term_faults spot t) none),
      term_named spot n t (nothing_right (unknown_name table is_input_sort name) (term_faults spot t) none),
    ) refl
deed_named table k n (draft.freeze name) none = rw (input_target table name none) refl

mutual
  act_named : (table : List Declared) (k n : ℕ) (a : DraftAct) → act_faults (spot_in table k elsewhere []) a ≡ [] → named_act table (resolved_act table n a) ≡ unplaced_act a
  act_named table k n (draft.write w) none = deed_named table k n w.deed none
  act_named table k n (draft.perform t) none = ap draft.perform (term_named (spot_in table k elsewhere []) n t none)
  act_named table k n (draft.branch t block) none =
      let spot = spot_in table k elsewhere [] in
      rw (
        term_named spot n t (nothing_left (term_faults spot t) (acts_faults spot block) none),
        acts_named table k (n + draft_site_count t) block (nothing_right (term_faults spot t) (acts_faults spot block) none),
      ) refl
  act_named table k n (draft.branch_else t block other) none =
      let spot = spot_in table k elsewhere [] in
      let blocks = nothing_right (term_faults spot t) (acts_faults spot block ++ acts_faults spot other) none in
      rw (
        term_named spot n t (nothing_left (term_faults spot t) (acts_faults spot block ++ acts_faults spot other) none),
        acts_named table k (n + draft_site_count t) block (nothing_left (acts_faults spot block) (acts_faults spot other) blocks),
        acts_named table k (n + draft_site_count t + acts_site_count block) other (nothing_right (acts_faults spot block) (acts_faults spot other) blocks),
      ) refl

  acts_named : (table : List Declared) (k n : ℕ) (block : DraftActs) → acts_faults (spot_in table k elsewhere []) block ≡ [] → named_acts table (resolved_acts table n block) ≡ unplaced_acts block
  acts_named table k n draft.no_acts none = refl
  acts_named table k n (draft.act a more) none =
      let spot = spot_in table k elsewhere [] in
      rw (
        act_named table k n a (nothing_left (act_faults spot a) (acts_faults spot more) none),
        acts_named table k (n + act_site_count a) more (nothing_right (act_faults spot a) (acts_faults spot more) none),
      ) refl

-- ---- items

no_writes : (spot : Spot) (ws : List WrittenDeed) → writes_faults spot ws ≡ [] → ws ≡ []
no_writes spot [] none = refl
no_writes spot (w ∷ more) none = absurd cc

body_named : (spot : Spot) (n : ℕ) (body : WrittenBody) → spot.scope ≡ [] → body_faults spot body ≡ [] → named_body spot.table (resolved_tree spot.table [] n body.term) ≡ unplaced_body body
body_named spot n body closed none =
    let written = no_writes spot body.writes (nothing_left (writes_faults spot body.writes) (term_faults spot body.term) none) in
    let inner = term_named spot n body.term (nothing_right (writes_faults spot body.writes) (term_faults spot body.term) none) in
    let at = subst (λ (scope : List (List ℕ)). named_tree spot.table scope (resolved_tree spot.table scope n body.term) ≡ unplaced_tree body.term) closed inner in
    rw (written, at) refl

output_named : (table : List Declared) (k : ℕ) (shown : WrittenOutput) → output_faults table k shown ≡ [] → named_output table (resolved_output table shown) ≡ unplaced_output shown
output_named table k shown none =
    let spot = spot_in table k elsewhere [] in
    rw (
      terms_named spot 0 shown.keys (nothing_left (terms_faults spot shown.keys) (body_faults spot shown.body) none),
      body_named spot (draft_site_count_all shown.keys) shown.body refl (nothing_right (terms_faults spot shown.keys) (body_faults spot shown.body) none),
    ) refl

parameters_named : (names : List Name) → map unplaced_name (map text_of_name names) ≡ map unplaced_of names
parameters_named [] = refl
parameters_named (n ∷ more) = ap (λ ns. unplaced_of n ∷ ns) (parameters_named more)

form_named : (table : List Declared) (k : ℕ) (name : List ℕ) (f : WrittenForm) → form_faults table k f ≡ [] → named_node table (resolved_form table name f) ≡ unplaced_form f
form_named table k name (draft.input start) none = refl
form_named table k name (draft.value start) none = refl
form_named table k name (draft.task parameters body) none =
    let spot = spot_in table k in_task (map text_of_name parameters) in
    rw (parameters_named parameters, term_named spot 0 body (nothing_right (repeated_names [] parameters) (term_faults spot body) none)) refl
form_named table k name (draft.reactive keys body) none =
    let spot = spot_in table k in_expression [] in
    rw (
      terms_named spot 0 keys (nothing_left (terms_faults spot keys) (body_faults spot body) none),
      body_named spot (draft_site_count_all keys) body refl (nothing_right (terms_faults spot keys) (body_faults spot body) none),
    ) refl
form_named table k name (draft.event flags e body) none =
    let spot = spot_in table k in_expression [] in
    rw (
      term_named spot 0 e (nothing_left (term_faults spot e) (body_faults spot body) none),
      body_named spot (suc (draft_site_count e)) body refl (nothing_right (term_faults spot e) (body_faults spot body) none),
    ) refl
form_named table k name (draft.text shown) none = ap draft.text (output_named table k shown none)
form_named table k name (draft.plot shown) none = ap draft.plot (output_named table k shown none)
form_named table k name (draft.observe priority block) none = ap (draft.observe priority) (acts_named table k 0 block none)
form_named table k name (draft.on priority flags e block) none =
    let spot = spot_in table k elsewhere [] in
    rw (
      term_named spot 0 e (nothing_left (term_faults spot e) (acts_faults spot block) none),
      acts_named table k (suc (draft_site_count e)) block (nothing_right (term_faults spot e) (acts_faults spot block) none),
    ) refl

name_kept : (table : List Declared) (name : List ℕ) (f : WrittenForm) → name_of (resolved_form table name f) ≡ name
name_kept table name (draft.input start) = refl
name_kept table name (draft.value start) = refl
name_kept table name (draft.task parameters body) = refl
name_kept table name (draft.reactive keys body) = refl
name_kept table name (draft.event flags e body) = refl
name_kept table name (draft.text shown) = refl
name_kept table name (draft.plot shown) = refl
name_kept table name (draft.observe priority block) = refl
name_kept table name (draft.on priority flags e block) = refl

item_named : (table : List Declared) (k : ℕ) (i : WrittenItem) → item_faults table k i ≡ [] → named_item table (resolved_item table i) ≡ unplaced_item i
item_named table k i none =
    rw (name_kept table i.name.text i.form, form_named table k i.name.text i.form (nothing_right (item_too_many k i ++ second_item table k i) (form_faults table k i.form) none)) refl

items_named : (table : List Declared) (k : ℕ) (items : List WrittenItem) → items_faults table k items ≡ [] → map (named_item table) (map (resolved_item table) items) ≡ map unplaced_item items
items_named table k [] none = refl
items_named table k (i ∷ more) none =
    rw (
      item_named table k i (nothing_left (item_faults table k i) (items_faults table (suc k) more) none),
      items_named table (suc k) more (nothing_right (item_faults table k i) (items_faults table (suc k) more) none),
    ) refl

-- ---- declarations

declared_kept : (table : List Declared) (i : WrittenItem) → declared_by_node (resolved_item table i) ≡ declared_by i
declared_kept table i = by i.form
  where
    by : (f : WrittenForm) → declared_by_node (resolved_form table i.name.text f) ≡ record { name = i.name.text; sort = sort_of_form f; parameters = parameter_count f }
    by (draft.input start) = refl
    by (draft.value start) = refl
    by (draft.task parameters body) = rw (length-map parameters text_of_name) refl
    by (draft.reactive keys body) = refl
    by (draft.event flags e body) = refl
    by (draft.text shown) = refl
    by (draft.plot shown) = refl
    by (draft.observe priority block) = refl
    by (draft.on priority flags e block) = refl

declarations_kept : (table : List Declared) (items : List WrittenItem) → node_declarations (map (resolved_item table) items) ≡ declarations items
declarations_kept table [] = refl
declarations_kept table (i ∷ more) = rw (declared_kept table i, declarations_kept table more) refl

-- ---- whole drafts

pub named_resolved : (d : DraftShape) → faults d ≡ [] → named (resolved d) ≡ unplaced d
named_resolved d none =
    let table = declarations d.items in
    rw (declarations_kept table d.items, items_named table 0 d.items (all_pass d none)) refl
