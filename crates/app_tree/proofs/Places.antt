-- Places change neither the app that a draft stands for nor, but for their places, the checks that it fails.
use Rattle.std.proofs.Common.{◌≡◌, ℕ, suc, ◌+◌, Bool, true, false, List, [], ◌∷◌, ◌++◌, map, take, nat_eq, nat_le, refl, sym, ◌∙◌, ap, subst}
use Rattle.std.specs.Prelude.{is_none, bytes_eq}
use Rattle.std.proofs.lemmas.List.{map-append, length-map, take-map}
use Rattle.app_tree.specs.declared.item.Sort.{Sort}
use Rattle.app_tree.specs.declared.refusal.Fault.{Fault}
use Rattle.app_tree.specs.declared.refusal.Fault.TheVariants as fault
use Rattle.app_tree.specs.declared.refusal.Refusal.{Refusal}
use Rattle.app_tree.specs.declared.draft_term.Name.{Name}
use Rattle.app_tree.specs.declared.draft_term.ReadForm.{ReadForm}
use Rattle.app_tree.specs.Tree as app
use Rattle.app_tree.specs.DraftTree as draft
use Rattle.app_tree.specs.DraftTree.{DraftTree, DraftTrees, DraftDeed, WrittenDeed, DraftAct, DraftActs, WrittenBody, WrittenOutput, WrittenForm, WrittenItem, DraftShape}
use Rattle.app_tree.specs.Declarations.{Declared, is_input_sort, is_value_sort, is_task_sort, declaration, declarations, sort_of_form, parameter_count}
use Rattle.app_tree.specs.Resolve.{text_of_name, draft_site_count, draft_site_count_all, deed_site_count, act_site_count, acts_site_count, resolved_tree, resolved_trees, resolved_deed, resolved_act, resolved_acts, resolved_output, resolved_form, resolved_item, resolved, inner_scope, sought_by, innermost}
use Rattle.app_tree.specs.Faults.{refused, name_refused, where_fails, unknown_name, in_task_fault, forward_read, read_faults, is_in_task, is_forward, isolate_in_fold, fold_too_deep, same_variables, argument_count_fault, is_other_count, is_named_among, declared_name, item_too_many, second_item, Spot, in_last_part, term_faults, terms_faults, tree_count, deed_faults, act_faults, acts_faults, write_faults, writes_faults, spot_in, repeated_names, body_faults, output_faults, form_faults, item_faults, items_faults, faults, in_task, in_expression, elsewhere}
use Rattle.app_tree.specs.Unplaced.{unplaced_of, unplaced_tree, unplaced_trees, unplaced_deed, unplaced_written, unplaced_act, unplaced_acts, unplaced_body, unplaced_output, unplaced_form, unplaced_item, unplaced}

-- ---- sites

mutual
  pub sites_same : (t : DraftTree) → draft_site_count (unplaced_tree t) ≡ draft_site_count t
  sites_same (draft.constant x) = refl
  sites_same (draft.group t) = sites_same t
  sites_same (draft.read f place name) = refl
  sites_same (draft.variable name) = refl
  sites_same (draft.isolate place t) = ap suc (sites_same t)
  sites_same (draft.stop t) = sites_same t
  sites_same (draft.require t cancels) = sites_same t
  sites_same (draft.fold place list start accumulator element body) = rw (sites_same list, sites_same start, sites_same body) refl
  sites_same (draft.unary op t) = sites_same t
  sites_same (draft.binary op a b) = rw (sites_same a, sites_same b) refl
  sites_same (draft.choice condition m n) = rw (sites_same condition, sites_same m, sites_same n) refl
  sites_same (draft.call f ts) = all_sites_same ts

  pub all_sites_same : (ts : DraftTrees) → draft_site_count_all (unplaced_trees ts) ≡ draft_site_count_all ts
  all_sites_same draft.no_trees = refl
  all_sites_same (draft.tree t more) = rw (sites_same t, all_sites_same more) refl

deed_sites_same : (d : DraftDeed) → deed_site_count (unplaced_deed d) ≡ deed_site_count d
deed_sites_same (draft.set name t) = sites_same t
deed_sites_same (draft.invoke name ts) = all_sites_same ts
deed_sites_same (draft.update name t) = sites_same t
deed_sites_same (draft.freeze name) = refl

mutual
  act_sites_same : (a : DraftAct) → act_site_count (unplaced_act a) ≡ act_site_count a
  act_sites_same (draft.write w) = deed_sites_same w.deed
  act_sites_same (draft.perform t) = sites_same t
  act_sites_same (draft.branch t block) = rw (sites_same t, acts_sites_same block) refl
  act_sites_same (draft.branch_else t block other) = rw (sites_same t, acts_sites_same block, acts_sites_same other) refl

  acts_sites_same : (block : DraftActs) → acts_site_count (unplaced_acts block) ≡ acts_site_count block
  acts_sites_same draft.no_acts = refl
  acts_sites_same (draft.act a more) = rw (act_sites_same a, acts_sites_same more) refl

-- ---- what a draft stands for

mutual
  resolved_same : (table : List Declared) (scope : List (List ℕ)) (n : ℕ) (t : DraftTree) → resolved_tree table scope n (unplaced_tree t) ≡ resolved_tree table scope n t
  resolved_same table scope n (draft.constant x) = refl
  resolved_same table scope n (draft.group t) = ap app.group (resolved_same table scope n t)
  resolved_same table scope n (draft.read f place name) = refl
  resolved_same table scope n (draft.variable name) = refl
  resolved_same table scope n (draft.isolate place t) = ap (app.isolate n) (resolved_same table scope (suc n) t)
  resolved_same table scope n (draft.stop t) = ap app.stop (resolved_same table scope n t)
  resolved_same table scope n (draft.require t cancels) = ap (λ s. app.require s cancels) (resolved_same table scope n t)
  resolved_same table scope n (draft.fold place list start accumulator element body) =
      rw (
        sites_same list,
        sites_same start,
        resolved_same table scope n list,
        resolved_same table scope (n + draft_site_count list) start,
        resolved_same table (inner_scope scope accumulator.text element.text) (n + draft_site_count list + draft_site_count start) body,
      ) refl
  resolved_same table scope n (draft.unary op t) = ap (app.unary op) (resolved_same table scope n t)
  resolved_same table scope n (draft.binary op a b) =
      rw (sites_same a, resolved_same table scope n a, resolved_same table scope (n + draft_site_count a) b) refl
  resolved_same table scope n (draft.choice condition chosen otherwise) =
      rw (
        sites_same condition,
        sites_same chosen,
        resolved_same table scope n condition,
        resolved_same table scope (n + draft_site_count condition) chosen,
        resolved_same table scope (n + draft_site_count condition + draft_site_count chosen) otherwise,
      ) refl
  resolved_same table scope n (draft.call f ts) = ap (app.call f) (all_resolved_same table scope n ts)

  all_resolved_same : (table : List Declared) (scope : List (List ℕ)) (n : ℕ) (ts : DraftTrees) → resolved_trees table scope n (unplaced_trees ts) ≡ resolved_trees table scope n ts
  all_resolved_same table scope n draft.no_trees = refl
  all_resolved_same table scope n (draft.tree t more) =
      rw (sites_same t, resolved_same table scope n t, all_resolved_same table scope (n + draft_site_count t) more) refl

deed_resolved_same : (table : List Declared) (n : ℕ) (d : DraftDeed) → resolved_deed table n (unplaced_deed d) ≡ resolved_deed table n d
deed_resolved_same table n (draft.set name t) = rw (resolved_same table [] n t) refl
deed_resolved_same table n (draft.invoke name ts) = rw (all_resolved_same table [] n ts) refl
deed_resolved_same table n (draft.update name t) = rw (resolved_same table [] n t) refl
deed_resolved_same table n (draft.freeze name) = refl

mutual
  act_resolved_same : (table : List Declared) (n : ℕ) (a : DraftAct) → resolved_act table n (unplaced_act a) ≡ resolved_act table n a
  act_resolved_same table n (draft.write w) = deed_resolved_same table n w.deed
  act_resolved_same table n (draft.perform t) = ap app.perform (resolved_same table [] n t)
  act_resolved_same table n (draft.branch t block) =
      rw (sites_same t, resolved_same table [] n t, acts_resolved_same table (n + draft_site_count t) block) refl
  act_resolved_same table n (draft.branch_else t block other) =
      rw (
        sites_same t,
        acts_sites_same block,
        resolved_same table [] n t,
        acts_resolved_same table (n + draft_site_count t) block,
        acts_resolved_same table (n + draft_site_count t + acts_site_count block) other,
      ) refl

  acts_resolved_same : (table : List Declared) (n : ℕ) (block : DraftActs) → resolved_acts table n (unplaced_acts block) ≡ resolved_acts table n block
  acts_resolved_same table n draft.no_acts = refl
  acts_resolved_same table n (draft.act a more) =
      rw (act_sites_same a, act_resolved_same table n a, acts_resolved_same table (n + act_site_count a) more) refl

output_resolved_same : (table : List Declared) (shown : WrittenOutput) → resolved_output table (unplaced_output shown) ≡ resolved_output table shown
output_resolved_same table shown =
    rw (all_sites_same shown.keys, all_resolved_same table [] 0 shown.keys, resolved_same table [] (draft_site_count_all shown.keys) shown.body.term) refl

texts_same : (names : List Name) → map text_of_name (map unplaced_of names) ≡ map text_of_name names
texts_same [] = refl
texts_same (n ∷ more) = ap (λ texts. n.text ∷ texts) (texts_same more)

form_resolved_same : (table : List Declared) (name : List ℕ) (form : WrittenForm) → resolved_form table name (unplaced_form form) ≡ resolved_form table name form
form_resolved_same table name (draft.input start) = refl
form_resolved_same table name (draft.value start) = refl
form_resolved_same table name (draft.task parameters body) =
    rw (texts_same parameters, resolved_same table (map text_of_name parameters) 0 body) refl
form_resolved_same table name (draft.reactive keys body) =
    rw (all_sites_same keys, all_resolved_same table [] 0 keys, resolved_same table [] (draft_site_count_all keys) body.term) refl
form_resolved_same table name (draft.event flags e body) =
    rw (sites_same e, resolved_same table [] 0 e, resolved_same table [] (suc (draft_site_count e)) body.term) refl
form_resolved_same table name (draft.text shown) = ap (app.text name) (output_resolved_same table shown)
form_resolved_same table name (draft.plot shown) = ap (app.plot name) (output_resolved_same table shown)
form_resolved_same table name (draft.observe priority block) = ap (app.observe name priority) (acts_resolved_same table 0 block)
form_resolved_same table name (draft.on priority flags e block) =
    rw (sites_same e, resolved_same table [] 0 e, acts_resolved_same table (suc (draft_site_count e)) block) refl

-- ---- declarations

sort_same : (form : WrittenForm) → sort_of_form (unplaced_form form) ≡ sort_of_form form
sort_same (draft.input start) = refl
sort_same (draft.value start) = refl
sort_same (draft.task parameters body) = refl
sort_same (draft.reactive keys body) = refl
sort_same (draft.event flags e body) = refl
sort_same (draft.text shown) = refl
sort_same (draft.plot shown) = refl
sort_same (draft.observe priority block) = refl
sort_same (draft.on priority flags e block) = refl

count_same : (form : WrittenForm) → parameter_count (unplaced_form form) ≡ parameter_count form
count_same (draft.input start) = refl
count_same (draft.value start) = refl
count_same (draft.task parameters body) = length-map parameters unplaced_of
count_same (draft.reactive keys body) = refl
count_same (draft.event flags e body) = refl
count_same (draft.text shown) = refl
count_same (draft.plot shown) = refl
count_same (draft.observe priority block) = refl
count_same (draft.on priority flags e block) = refl

pub declarations_same : (items : List WrittenItem) → declarations (map unplaced_item items) ≡ declarations items
declarations_same [] = refl
declarations_same (i ∷ more) = rw (sort_same i.form, count_same i.form, declarations_same more) refl

resolved_items_same : (table : List Declared) (items : List WrittenItem) → map (resolved_item table) (map unplaced_item items) ≡ map (resolved_item table) items
resolved_items_same table [] = refl
resolved_items_same table (i ∷ more) = rw (form_resolved_same table i.name.text i.form, resolved_items_same table more) refl

pub resolved_unplaced : (d : DraftShape) → resolved (unplaced d) ≡ resolved d
resolved_unplaced d = rw (declarations_same d.items, resolved_items_same (declarations d.items) d.items) refl

-- ---- the checks that fail

-- a refusal without its place
pub forget : Refusal → Refusal
forget r = record r { place = 0 }

abbrev pub forgotten : List Refusal → List Refusal
forgotten rs = map forget rs

abbrev FailAlike : List Refusal → List Refusal → Type 0
FailAlike rs ss = forgotten rs ≡ forgotten ss

join : (ps qs rs ss : List Refusal) → FailAlike ps rs → FailAlike qs ss → FailAlike (ps ++ qs) (rs ++ ss)
join ps qs rs ss e f = map-append forget ps qs ∙ rw (e, f) (sym (map-append forget rs ss))

name_where : (b : Bool) (f : Fault) (name : Name) → FailAlike (where_fails b (name_refused f (unplaced_of name))) (where_fails b (name_refused f name))
unfolding forget
name_where true f name = refl
name_where false f name = refl

place_where : (b : Bool) (f : Fault) (place : ℕ) → FailAlike (where_fails b (refused f 0)) (where_fails b (refused f place))
unfolding forget
place_where true f place = refl
place_where false f place = refl

unknown_same : (spot : Spot) (sought : Sort → Bool) (name : Name) → FailAlike (unknown_name spot.table sought (unplaced_of name)) (unknown_name spot.table sought name)
unknown_same spot sought name = name_where (is_none (declaration sought name.text spot.table)) fault.NameUnknown name

read_same : (spot : Spot) (f : ReadForm) (place : ℕ) (name : Name) → FailAlike (read_faults spot f 0 (unplaced_of name)) (read_faults spot f place name)
read_same spot f place name =
    join (unknown_name spot.table (sought_by f) (unplaced_of name)) (in_task_fault spot 0 ++ forward_read spot f (unplaced_of name))
    (unknown_name spot.table (sought_by f) name) (in_task_fault spot place ++ forward_read spot f name)
    (unknown_same spot (sought_by f) name)
    (join (in_task_fault spot 0) (forward_read spot f (unplaced_of name)) (in_task_fault spot place) (forward_read spot f name)
    (place_where (is_in_task spot.holder) fault.ReadInTask place)
    (name_where (is_forward spot (declaration (sought_by f) name.text spot.table)) fault.ForwardRead name))

mutual
  faults_same : (spot : Spot) (t : DraftTree) → FailAlike (term_faults spot (unplaced_tree t)) (term_faults spot t)
  faults_same spot (draft.constant x) = refl
  faults_same spot (draft.group t) = faults_same spot t
  faults_same spot (draft.read f place name) = read_same spot f place name
  faults_same spot (draft.variable name) = name_where (is_none (innermost name.text spot.scope)) fault.NameUnknown name
  faults_same spot (draft.isolate place t) =
      join (in_task_fault spot 0 ++ isolate_in_fold spot 0) (term_faults spot (unplaced_tree t)) (in_task_fault spot place ++ isolate_in_fold spot place) (term_faults spot t)
      (join (in_task_fault spot 0) (isolate_in_fold spot 0) (in_task_fault spot place) (isolate_in_fold spot place)
      (place_where (is_in_task spot.holder) fault.ReadInTask place) (place_where (nat_le 1 spot.last_parts) fault.IsolateInFold place))
      (faults_same spot t)
  faults_same spot (draft.stop t) = faults_same spot t
  faults_same spot (draft.require t cancels) = faults_same spot t
  faults_same spot (draft.fold place list start accumulator element body) =
      let inside = in_last_part spot accumulator element in
      join (fold_too_deep spot 0 ++ same_variables (unplaced_of accumulator) (unplaced_of element)) (term_faults spot (unplaced_tree list) ++ (term_faults spot (unplaced_tree start) ++ term_faults inside (unplaced_tree body)))
      (fold_too_deep spot place ++ same_variables accumulator element) (term_faults spot list ++ (term_faults spot start ++ term_faults inside body))
      (join (fold_too_deep spot 0) (same_variables (unplaced_of accumulator) (unplaced_of element)) (fold_too_deep spot place) (same_variables accumulator element)
      (place_where (nat_le 2 spot.last_parts) fault.FoldTooDeep place) (name_where (bytes_eq element.text accumulator.text) fault.NameTwice element))
      (join (term_faults spot (unplaced_tree list)) (term_faults spot (unplaced_tree start) ++ term_faults inside (unplaced_tree body)) (term_faults spot list) (term_faults spot start ++ term_faults inside body)
      (faults_same spot list)
      (join (term_faults spot (unplaced_tree start)) (term_faults inside (unplaced_tree body)) (term_faults spot start) (term_faults inside body)
      (faults_same spot start) (faults_same inside body)))
  faults_same spot (draft.unary op t) = faults_same spot t
  faults_same spot (draft.binary op a b) =
      join (term_faults spot (unplaced_tree a)) (term_faults spot (unplaced_tree b)) (term_faults spot a) (term_faults spot b) (faults_same spot a) (faults_same spot b)
  faults_same spot (draft.choice condition chosen otherwise) =
      join (term_faults spot (unplaced_tree condition)) (term_faults spot (unplaced_tree chosen) ++ term_faults spot (unplaced_tree otherwise))
      (term_faults spot condition) (term_faults spot chosen ++ term_faults spot otherwise)
      (faults_same spot condition)
      (join (term_faults spot (unplaced_tree chosen)) (term_faults spot (unplaced_tree otherwise)) (term_faults spot chosen) (term_faults spot otherwise)
      (faults_same spot chosen) (faults_same spot otherwise))
  faults_same spot (draft.call f ts) = all_faults_same spot ts

  all_faults_same : (spot : Spot) (ts : DraftTrees) → FailAlike (terms_faults spot (unplaced_trees ts)) (terms_faults spot ts)
  all_faults_same spot draft.no_trees = refl
  all_faults_same spot (draft.tree t more) =
      join (term_faults spot (unplaced_tree t)) (terms_faults spot (unplaced_trees more)) (term_faults spot t) (terms_faults spot more)
      (faults_same spot t) (all_faults_same spot more)

tree_count_same : (ts : DraftTrees) → tree_count (unplaced_trees ts) ≡ tree_count ts
tree_count_same draft.no_trees = refl
tree_count_same (draft.tree t more) = ap suc (tree_count_same more)

count_fault_same : (table : List Declared) (name : Name) (n m : ℕ) → n ≡ m → FailAlike (argument_count_fault table (unplaced_of name) n) (argument_count_fault table name m)
count_fault_same table name n m e =
    subst (λ (k : ℕ). FailAlike (argument_count_fault table (unplaced_of name) n) (argument_count_fault table name k)) e
    (name_where (is_other_count n (declaration is_task_sort name.text table)) fault.ArgCount name)

deed_same : (spot : Spot) (d : DraftDeed) → FailAlike (deed_faults spot (unplaced_deed d)) (deed_faults spot d)
deed_same spot (draft.set name t) =
    join (unknown_name spot.table is_value_sort (unplaced_of name)) (term_faults spot (unplaced_tree t)) (unknown_name spot.table is_value_sort name) (term_faults spot t)
    (unknown_same spot is_value_sort name) (faults_same spot t)
deed_same spot (draft.invoke name ts) =
    join (unknown_name spot.table is_task_sort (unplaced_of name) ++ argument_count_fault spot.table (unplaced_of name) (tree_count (unplaced_trees ts))) (terms_faults spot (unplaced_trees ts))
    (unknown_name spot.table is_task_sort name ++ argument_count_fault spot.table name (tree_count ts)) (terms_faults spot ts)
    (join (unknown_name spot.table is_task_sort (unplaced_of name)) (argument_count_fault spot.table (unplaced_of name) (tree_count (unplaced_trees ts)))
    (unknown_name spot.table is_task_sort name) (argument_count_fault spot.table name (tree_count ts))
    (unknown_same spot is_task_sort name) (count_fault_same spot.table name (tree_count (unplaced_trees ts)) (tree_count ts) (tree_count_same ts)))
    (all_faults_same spot ts)
deed_same spot (draft.update name t) =
    join (unknown_name spot.table is_input_sort (unplaced_of name)) (term_faults spot (unplaced_tree t)) (unknown_name spot.table is_input_sort name) (term_faults spot t)
    (unknown_same spot is_input_sort name) (faults_same spot t)
deed_same spot (draft.freeze name) = unknown_same spot is_input_sort name

mutual
  act_same : (spot : Spot) (a : DraftAct) → FailAlike (act_faults spot (unplaced_act a)) (act_faults spot a)
  act_same spot (draft.write w) = deed_same spot w.deed
  act_same spot (draft.perform t) = faults_same spot t
  act_same spot (draft.branch t block) =
      join (term_faults spot (unplaced_tree t)) (acts_faults spot (unplaced_acts block)) (term_faults spot t) (acts_faults spot block)
      (faults_same spot t) (acts_same spot block)
  act_same spot (draft.branch_else t block other) =
      join (term_faults spot (unplaced_tree t)) (acts_faults spot (unplaced_acts block) ++ acts_faults spot (unplaced_acts other))
      (term_faults spot t) (acts_faults spot block ++ acts_faults spot other)
      (faults_same spot t)
      (join (acts_faults spot (unplaced_acts block)) (acts_faults spot (unplaced_acts other)) (acts_faults spot block) (acts_faults spot other)
      (acts_same spot block) (acts_same spot other))

  acts_same : (spot : Spot) (block : DraftActs) → FailAlike (acts_faults spot (unplaced_acts block)) (acts_faults spot block)
  acts_same spot draft.no_acts = refl
  acts_same spot (draft.act a more) =
      join (act_faults spot (unplaced_act a)) (acts_faults spot (unplaced_acts more)) (act_faults spot a) (acts_faults spot more)
      (act_same spot a) (acts_same spot more)

write_same : (spot : Spot) (w : WrittenDeed) → FailAlike (write_faults spot (unplaced_written w)) (write_faults spot w)
unfolding forget
write_same spot w = ap (λ rs. refused fault.WriteInExpr 0 ∷ rs) (deed_same spot w.deed)

writes_same : (spot : Spot) (ws : List WrittenDeed) → FailAlike (writes_faults spot (map unplaced_written ws)) (writes_faults spot ws)
writes_same spot [] = refl
writes_same spot (w ∷ more) =
    join (write_faults spot (unplaced_written w)) (writes_faults spot (map unplaced_written more)) (write_faults spot w) (writes_faults spot more)
    (write_same spot w) (writes_same spot more)

body_same : (spot : Spot) (body : WrittenBody) → FailAlike (body_faults spot (unplaced_body body)) (body_faults spot body)
body_same spot body =
    join (writes_faults spot (map unplaced_written body.writes)) (term_faults spot (unplaced_tree body.term)) (writes_faults spot body.writes) (term_faults spot body.term)
    (writes_same spot body.writes) (faults_same spot body.term)

repeated_same : (before : List (List ℕ)) (names : List Name) → FailAlike (repeated_names before (map unplaced_of names)) (repeated_names before names)
repeated_same before [] = refl
repeated_same before (n ∷ more) =
    join (where_fails (is_named_among n.text before) (name_refused fault.NameTwice (unplaced_of n))) (repeated_names (before ++ n.text ∷ []) (map unplaced_of more))
    (where_fails (is_named_among n.text before) (name_refused fault.NameTwice n)) (repeated_names (before ++ n.text ∷ []) more)
    (name_where (is_named_among n.text before) fault.NameTwice n) (repeated_same (before ++ n.text ∷ []) more)

output_same : (table : List Declared) (k : ℕ) (shown : WrittenOutput) → FailAlike (output_faults table k (unplaced_output shown)) (output_faults table k shown)
output_same table k shown =
    let spot = spot_in table k elsewhere [] in
    join (terms_faults spot (unplaced_trees shown.keys)) (body_faults spot (unplaced_body shown.body)) (terms_faults spot shown.keys) (body_faults spot shown.body)
    (all_faults_same spot shown.keys) (body_same spot shown.body)

task_same : (table : List Declared) (k : ℕ) (scope names : List (List ℕ)) (body : DraftTree) → scope ≡ names → FailAlike (term_faults (spot_in table k in_task scope) (unplaced_tree body)) (term_faults (spot_in table k in_task names) body)
task_same table k scope names body e =
    subst (λ (s : List (List ℕ)). FailAlike (term_faults (spot_in table k in_task scope) (unplaced_tree body)) (term_faults (spot_in table k in_task s) body)) e
    (faults_same (spot_in table k in_task scope) body)

form_same : (table : List Declared) (k : ℕ) (form : WrittenForm) → FailAlike (form_faults table k (unplaced_form form)) (form_faults table k form)
form_same table k (draft.input start) = refl
form_same table k (draft.value start) = refl
form_same table k (draft.task parameters body) =
    join (repeated_names [] (map unplaced_of parameters)) (term_faults (spot_in table k in_task (map text_of_name (map unplaced_of parameters))) (unplaced_tree body))
    (repeated_names [] parameters) (term_faults (spot_in table k in_task (map text_of_name parameters)) body)
    (repeated_same [] parameters)
    (task_same table k (map text_of_name (map unplaced_of parameters)) (map text_of_name parameters) body (texts_same parameters))
form_same table k (draft.reactive keys body) =
    let spot = spot_in table k in_expression [] in
    join (terms_faults spot (unplaced_trees keys)) (body_faults spot (unplaced_body body)) (terms_faults spot keys) (body_faults spot body)
    (all_faults_same spot keys) (body_same spot body)
form_same table k (draft.event flags e body) =
    let spot = spot_in table k in_expression [] in
    join (term_faults spot (unplaced_tree e)) (body_faults spot (unplaced_body body)) (term_faults spot e) (body_faults spot body)
    (faults_same spot e) (body_same spot body)
form_same table k (draft.text shown) = output_same table k shown
form_same table k (draft.plot shown) = output_same table k shown
form_same table k (draft.observe priority block) = acts_same (spot_in table k elsewhere []) block
form_same table k (draft.on priority flags e block) =
    let spot = spot_in table k elsewhere [] in
    join (term_faults spot (unplaced_tree e)) (acts_faults spot (unplaced_acts block)) (term_faults spot e) (acts_faults spot block)
    (faults_same spot e) (acts_same spot block)

item_same : (table : List Declared) (k : ℕ) (i : WrittenItem) → FailAlike (item_faults table k (unplaced_item i)) (item_faults table k i)
item_same table k i =
    join (item_too_many k (unplaced_item i) ++ second_item table k (unplaced_item i)) (form_faults table k (unplaced_form i.form))
    (item_too_many k i ++ second_item table k i) (form_faults table k i.form)
    (join (item_too_many k (unplaced_item i)) (second_item table k (unplaced_item i)) (item_too_many k i) (second_item table k i)
    (place_where (nat_eq k 500) fault.TooManyItems i.place)
    (name_where (is_named_among i.name.text (map declared_name (take k table))) fault.NameTwice i.name))
    (form_same table k i.form)

items_same : (table : List Declared) (k : ℕ) (items : List WrittenItem) → FailAlike (items_faults table k (map unplaced_item items)) (items_faults table k items)
items_same table k [] = refl
items_same table k (i ∷ more) =
    join (item_faults table k (unplaced_item i)) (items_faults table (suc k) (map unplaced_item more)) (item_faults table k i) (items_faults table (suc k) more)
    (item_same table k i) (items_same table (suc k) more)

pub faults_unplaced : (d : DraftShape) → FailAlike (faults (unplaced d)) (faults d)
faults_unplaced d =
    rw (declarations_same d.items, take-map unplaced_item 501 d.items) (items_same (declarations d.items) 0 (take 501 d.items))

none_from : (rs ss : List Refusal) → FailAlike rs ss → ss ≡ [] → rs ≡ []
none_from [] ss e none = refl
none_from (r ∷ rs) ss e none = let no : forgotten (r ∷ rs) ≡ [] = e ∙ ap forgotten none in absurd cc

-- drafts that are equal but for their places pass the checks alike, and stand for one app
pub passes_alike : (d e : DraftShape) → unplaced d ≡ unplaced e → faults d ≡ [] → faults e ≡ []
passes_alike d e same none =
    let one = none_from (faults (unplaced d)) (faults d) (faults_unplaced d) none in
    let other : faults (unplaced e) ≡ [] = ap faults (sym same) ∙ one in
    none_from (faults e) (faults (unplaced e)) (sym (faults_unplaced e)) other

pub resolved_alike : (d e : DraftShape) → unplaced d ≡ unplaced e → resolved d ≡ resolved e
resolved_alike d e same = sym (resolved_unplaced d) ∙ ap resolved same ∙ resolved_unplaced e
