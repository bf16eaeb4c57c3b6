-- The checks that a draft has to pass: each that it fails, with its place, and the first of them.
use Rattle.std.specs.Prelude.{ℕ, suc, Bool, true, false, not, ◌&&◌, ◌||◌, List, [], ◌∷◌, ◌++◌, map, take, Option, Some, None, is_none, Result, Ok, Err, nat_eq, nat_lt, nat_le, bytes_eq, if◌then◌else◌}
use Rattle.app_tree.specs.declared.limits.TheConstants.{ITEM_LIMIT, FOLD_LIMIT}
use Rattle.app_tree.specs.declared.item.Sort.{Sort}
use Rattle.app_tree.specs.declared.item.Sort.TheVariants as sort
use Rattle.app_tree.specs.declared.refusal.Fault.{Fault}
use Rattle.app_tree.specs.declared.refusal.Fault.TheVariants as fault
use Rattle.app_tree.specs.declared.refusal.Refusal.{Refusal}
use Rattle.app_tree.specs.declared.draft_term.Name.{Name}
use Rattle.app_tree.specs.declared.draft_term.ReadForm.{ReadForm}
use Rattle.app_tree.specs.DraftTree as draft
use Rattle.app_tree.specs.DraftTree.{DraftTree, DraftTrees, DraftDeed, WrittenDeed, DraftAct, DraftActs, WrittenBody, WrittenOutput, WrittenForm, WrittenItem, DraftShape}
use Rattle.app_tree.specs.Tree.{Shape}
use Rattle.app_tree.specs.Declarations.{Declared, is_input_sort, is_value_sort, is_task_sort, declarations, declaration}
use Rattle.app_tree.specs.Resolve.{text_of_name, sought_by, innermost, inner_scope, resolved}

-- ---- refusals

abbrev pub refused : Fault → ℕ → Refusal
refused f place = record { place = place; fault = f; name = [] }

abbrev pub name_refused : Fault → Name → Refusal
name_refused f name = record { place = name.place; fault = f; name = name.text }

-- the refusal, where the check fails
abbrev pub where_fails : Bool → Refusal → List Refusal
where_fails true r = r ∷ []
where_fails false r = []

-- ---- where a part of a term stands

-- what the item is that it stands in
pub data Holder : Type 0 where
  in_task : Holder
  in_expression : Holder
  elsewhere : Holder

abbrev pub is_in_task : Holder → Bool
is_in_task in_task = true
is_in_task in_expression = false
is_in_task elsewhere = false

abbrev pub is_in_expression : Holder → Bool
is_in_expression in_expression = true
is_in_expression in_task = false
is_in_expression elsewhere = false

-- the declarations of the file; the item's place among the items; what it is; the variables that are bound here; and in
-- how many last parts of folds this stands
pub record Spot : Type 0 where
  pub table : List Declared
  pub item : ℕ
  pub holder : Holder
  pub scope : List (List ℕ)
  pub last_parts : ℕ

-- in the last part of a fold with these variables
abbrev pub in_last_part : Spot → Name → Name → Spot
in_last_part spot accumulator element =
    record spot { scope = inner_scope spot.scope accumulator.text element.text; last_parts = suc spot.last_parts }

-- ---- the checks of names

-- a name that is not declared in a sort that its place needs
abbrev pub unknown_name : List Declared → (Sort → Bool) → Name → List Refusal
unknown_name table sought name = where_fails (is_none (declaration sought name.text table)) (name_refused fault.NameUnknown name)

-- a name alone that is no variable here
abbrev pub unbound_variable : Spot → Name → List Refusal
unbound_variable spot name = where_fails (is_none (innermost name.text spot.scope)) (name_refused fault.NameUnknown name)

abbrev pub is_at_or_behind : ℕ → Sort → ℕ → Bool
is_at_or_behind item sort.Expression k = nat_le item k
is_at_or_behind item _ k = false

abbrev pub is_forward : Spot → Option (ℕ × Declared) → Bool
is_forward spot (Some found) = is_in_expression spot.holder && is_at_or_behind spot.item found.1.sort found.0
is_forward spot None = false

-- an expression that reads itself or a later expression
abbrev pub forward_read : Spot → ReadForm → Name → List Refusal
forward_read spot f name = where_fails (is_forward spot (declaration (sought_by f) name.text spot.table)) (name_refused fault.ForwardRead name)

abbrev pub is_other_count : ℕ → Option (ℕ × Declared) → Bool
is_other_count count (Some found) = not (nat_eq found.1.parameters count)
is_other_count count None = false

-- an invocation with another number of arguments than the task has
abbrev pub argument_count_fault : List Declared → Name → ℕ → List Refusal
argument_count_fault table name count =
    where_fails (is_other_count count (declaration is_task_sort name.text table)) (name_refused fault.ArgCount name)

-- ---- the checks of places

-- a read or an isolate in a task
abbrev pub in_task_fault : Spot → ℕ → List Refusal
in_task_fault spot place = where_fails (is_in_task spot.holder) (refused fault.ReadInTask place)

-- an isolate in the last part of a fold
abbrev pub isolate_in_fold : Spot → ℕ → List Refusal
isolate_in_fold spot place = where_fails (nat_le 1 spot.last_parts) (refused fault.IsolateInFold place)

-- a fold in the last part of a fold that stands in the last part of a fold
abbrev pub fold_too_deep : Spot → ℕ → List Refusal
fold_too_deep spot place = where_fails (nat_le FOLD_LIMIT spot.last_parts) (refused fault.FoldTooDeep place)

-- the second variable of a fold, where both have one name
abbrev pub same_variables : Name → Name → List Refusal
same_variables accumulator element = where_fails (bytes_eq element.text accumulator.text) (name_refused fault.NameTwice element)

-- ---- terms

abbrev pub read_faults : Spot → ReadForm → ℕ → Name → List Refusal
read_faults spot f place name =
    unknown_name spot.table (sought_by f) name ++ (in_task_fault spot place ++ forward_read spot f name)

abbrev mutual
  pub term_faults : Spot → DraftTree → List Refusal
  term_faults spot (draft.constant x) = []
  term_faults spot (draft.group t) = term_faults spot t
  term_faults spot (draft.read f place name) = read_faults spot f place name
  term_faults spot (draft.variable name) = unbound_variable spot name
  term_faults spot (draft.isolate place t) = (in_task_fault spot place ++ isolate_in_fold spot place) ++ term_faults spot t
  term_faults spot (draft.stop t) = term_faults spot t
  term_faults spot (draft.require t cancels) = term_faults spot t
  term_faults spot (draft.fold place list start accumulator element body) =
      (fold_too_deep spot place ++ same_variables accumulator element)
      ++ (term_faults spot list ++ (term_faults spot start ++ term_faults (in_last_part spot accumulator element) body))
  term_faults spot (draft.unary op t) = term_faults spot t
  term_faults spot (draft.binary op a b) = term_faults spot a ++ term_faults spot b
  term_faults spot (draft.choice condition chosen otherwise) =
      term_faults spot condition ++ (term_faults spot chosen ++ term_faults spot otherwise)
  term_faults spot (draft.call f ts) = terms_faults spot ts

  pub terms_faults : Spot → DraftTrees → List Refusal
  terms_faults spot draft.no_trees = []
  terms_faults spot (draft.tree t more) = term_faults spot t ++ terms_faults spot more

-- ---- writes and statements

abbrev pub tree_count : DraftTrees → ℕ
tree_count draft.no_trees = 0
tree_count (draft.tree t more) = suc (tree_count more)

abbrev pub deed_faults : Spot → DraftDeed → List Refusal
deed_faults spot (draft.set name t) = unknown_name spot.table is_value_sort name ++ term_faults spot t
deed_faults spot (draft.invoke name ts) =
    (unknown_name spot.table is_task_sort name ++ argument_count_fault spot.table name (tree_count ts)) ++ terms_faults spot ts
deed_faults spot (draft.update name t) = unknown_name spot.table is_input_sort name ++ term_faults spot t
deed_faults spot (draft.freeze name) = unknown_name spot.table is_input_sort name

abbrev mutual
  pub act_faults : Spot → DraftAct → List Refusal
  act_faults spot (draft.write w) = deed_faults spot w.deed
  act_faults spot (draft.perform t) = term_faults spot t
  act_faults spot (draft.branch t block) = term_faults spot t ++ acts_faults spot block
  act_faults spot (draft.branch_else t block other) = term_faults spot t ++ (acts_faults spot block ++ acts_faults spot other)

  pub acts_faults : Spot → DraftActs → List Refusal
  acts_faults spot draft.no_acts = []
  acts_faults spot (draft.act a more) = act_faults spot a ++ acts_faults spot more

-- a write in a body, and what is wrong within it
abbrev pub write_faults : Spot → WrittenDeed → List Refusal
write_faults spot w = refused fault.WriteInExpr w.place ∷ deed_faults spot w.deed

abbrev pub writes_faults : Spot → List WrittenDeed → List Refusal
writes_faults spot [] = []
writes_faults spot (w ∷ more) = write_faults spot w ++ writes_faults spot more

abbrev pub body_faults : Spot → WrittenBody → List Refusal
body_faults spot body = writes_faults spot body.writes ++ term_faults spot body.term

-- ---- items

-- where the item at this place among the items stands, and what it is, with these variables
abbrev pub spot_in : List Declared → ℕ → Holder → List (List ℕ) → Spot
spot_in table k holder scope = record { table = table; item = k; holder = holder; scope = scope; last_parts = 0 }

abbrev pub is_named_among : List ℕ → List (List ℕ) → Bool
is_named_among name [] = false
is_named_among name (x ∷ more) = bytes_eq name x || is_named_among name more

-- each name that stands before, among the names of which these stand behind `before`
abbrev pub repeated_names : List (List ℕ) → List Name → List Refusal
repeated_names before [] = []
repeated_names before (name ∷ more) =
    where_fails (is_named_among name.text before) (name_refused fault.NameTwice name) ++ repeated_names (before ++ name.text ∷ []) more

abbrev pub output_faults : List Declared → ℕ → WrittenOutput → List Refusal
output_faults table k shown =
    terms_faults (spot_in table k elsewhere []) shown.keys ++ body_faults (spot_in table k elsewhere []) shown.body

abbrev pub form_faults : List Declared → ℕ → WrittenForm → List Refusal
form_faults table k (draft.input start) = []
form_faults table k (draft.value start) = []
form_faults table k (draft.task parameters body) =
    repeated_names [] parameters ++ term_faults (spot_in table k in_task (map text_of_name parameters)) body
form_faults table k (draft.reactive keys body) =
    terms_faults (spot_in table k in_expression []) keys ++ body_faults (spot_in table k in_expression []) body
form_faults table k (draft.event flags e body) =
    term_faults (spot_in table k in_expression []) e ++ body_faults (spot_in table k in_expression []) body
form_faults table k (draft.text shown) = output_faults table k shown
form_faults table k (draft.plot shown) = output_faults table k shown
form_faults table k (draft.observe priority block) = acts_faults (spot_in table k elsewhere []) block
form_faults table k (draft.on priority flags e block) =
    term_faults (spot_in table k elsewhere []) e ++ acts_faults (spot_in table k elsewhere []) block

abbrev pub declared_name : Declared → List ℕ
declared_name d = d.name

-- the item is a second one of its name
abbrev pub second_item : List Declared → ℕ → WrittenItem → List Refusal
second_item table k i = where_fails (is_named_among i.name.text (map declared_name (take k table))) (name_refused fault.NameTwice i.name)

-- the item is one more than an app may have
abbrev pub item_too_many : ℕ → WrittenItem → List Refusal
item_too_many k i = where_fails (nat_eq k ITEM_LIMIT) (refused fault.TooManyItems i.place)

abbrev pub item_faults : List Declared → ℕ → WrittenItem → List Refusal
item_faults table k i = (item_too_many k i ++ second_item table k i) ++ form_faults table k i.form

abbrev pub items_faults : List Declared → ℕ → List WrittenItem → List Refusal
items_faults table k [] = []
items_faults table k (i ∷ more) = item_faults table k i ++ items_faults table (suc k) more

-- each check that the draft fails, with its place; of items behind the first too many, which is refused itself, only the
-- names are looked at, since they are declared
abbrev pub faults : DraftShape → List Refusal
faults d = items_faults (declarations d.items) 0 (take (suc ITEM_LIMIT) d.items)

-- ---- the first refusal: that of the smallest place, at one place that which is first among the kinds of faults

abbrev pub fault_order : Fault → ℕ
fault_order fault.TooManyItems = 0
fault_order fault.NameTwice = 1
fault_order fault.NameUnknown = 2
fault_order fault.ArgCount = 3
fault_order fault.ReadInTask = 4
fault_order fault.ForwardRead = 5
fault_order fault.IsolateInFold = 6
fault_order fault.WriteInExpr = 7
fault_order fault.FoldTooDeep = 8

abbrev pub precedes : Refusal → Refusal → Bool
precedes r s = nat_lt r.place s.place || nat_eq r.place s.place && nat_lt (fault_order r.fault) (fault_order s.fault)

-- the one of two that precedes, and else the one that is there
abbrev pub earlier : Option Refusal → Refusal → Option Refusal
earlier None r = Some r
earlier (Some best) r = if precedes r best then Some r else Some best

-- the first of the refusals, and of one that is there
abbrev pub first_with : Option Refusal → List Refusal → Option Refusal
first_with best [] = best
first_with best (r ∷ more) = first_with (earlier best r) more

abbrev pub first_refusal : DraftShape → Option Refusal
first_refusal d = first_with None (faults d)

abbrev pub accepted_or : Option Refusal → Shape → Result Shape Refusal
accepted_or None app = Ok app
accepted_or (Some r) app = Err r

-- the app that the draft stands for, or the first refusal
abbrev pub checked : DraftShape → Result Shape Refusal
checked d = accepted_or (first_refusal d) (resolved d)
