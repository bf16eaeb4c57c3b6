-- The app that a draft stands for: each name by its number, each variable by the place where it is bound, and each
-- isolated site by its number in its item's text.
use Rattle.std.specs.Prelude.{ℕ, suc, ◌+◌, Bool, List, [], ◌∷◌, ◌++◌, map, Option, Some, None, bytes_eq, if◌then◌else◌}
use Rattle.app_tree.specs.declared.item.Sort.{Sort}
use Rattle.app_tree.specs.declared.item.Sort.TheVariants as sort
use Rattle.app_tree.specs.declared.term.Read.{Read}
use Rattle.app_tree.specs.declared.term.Read.TheVariants as read
use Rattle.app_tree.specs.declared.draft_term.Name.{Name}
use Rattle.app_tree.specs.declared.draft_term.ReadForm.{ReadForm}
use Rattle.app_tree.specs.declared.draft_term.ReadForm.TheVariants as form
use Rattle.app_tree.specs.Tree as app
use Rattle.app_tree.specs.Tree.{Tree, Trees, Act, Acts, Shown, Node, Shape}
use Rattle.app_tree.specs.DraftTree as draft
use Rattle.app_tree.specs.DraftTree.{DraftTree, DraftTrees, DraftDeed, DraftAct, DraftActs, WrittenOutput, WrittenForm, WrittenItem, DraftShape}
use Rattle.app_tree.specs.Declarations.{Declared, is_input_sort, is_value_sort, is_task_sort, is_named_sort, is_output_sort, declarations, declaration, number_at}

abbrev pub text_of_name : Name → List ℕ
text_of_name name = name.text

-- ---- names

abbrev pub number_found : List Declared → Option (ℕ × Declared) → ℕ
number_found table (Some found) = number_at table found.0 found.1.sort
number_found table None = 0

-- the number of what the name stands for
abbrev pub number_named : List Declared → (Sort → Bool) → List ℕ → ℕ
number_named table sought name = number_found table (declaration sought name table)

-- the sorts that a read may read
abbrev pub sought_by : ReadForm → Sort → Bool
sought_by form.Input = is_input_sort
sought_by form.Named = is_named_sort
sought_by form.Status = is_task_sort
sought_by form.Result = is_task_sort
sought_by form.Width = is_output_sort
sought_by form.Height = is_output_sort

-- the read of a value or of an expression
abbrev pub named_read : Sort → ℕ → Read
named_read sort.Value n = read.Value n
named_read _ n = read.Expr n

abbrev pub read_to : ReadForm → Sort → ℕ → Read
read_to form.Input sort n = read.Input n
read_to form.Named sort n = named_read sort n
read_to form.Status sort n = read.Status n
read_to form.Result sort n = read.Result n
read_to form.Width sort n = read.Width n
read_to form.Height sort n = read.Height n

abbrev pub read_found : List Declared → ReadForm → Option (ℕ × Declared) → Read
read_found table f (Some found) = read_to f found.1.sort (number_at table found.0 found.1.sort)
read_found table f None = read_to f sort.Expression 0

abbrev pub resolved_read : List Declared → ReadForm → List ℕ → Read
resolved_read table f name = read_found table f (declaration (sought_by f) name table)

-- ---- variables

-- the place of the innermost variable of this name, behind n others of which `best` is the one so far
abbrev pub innermost_from : ℕ → Option ℕ → List ℕ → List (List ℕ) → Option ℕ
innermost_from n best name [] = best
innermost_from n best name (x ∷ scope) = innermost_from (suc n) (if bytes_eq name x then Some n else best) name scope

-- the number of the variable of this name; an inner one hides an outer one
abbrev pub innermost : List ℕ → List (List ℕ) → Option ℕ
innermost name scope = innermost_from 0 None name scope

abbrev pub number_or_zero : Option ℕ → ℕ
number_or_zero (Some n) = n
number_or_zero None = 0

-- the variables inside the last part of a fold
abbrev pub inner_scope : List (List ℕ) → List ℕ → List ℕ → List (List ℕ)
inner_scope scope accumulator element = scope ++ accumulator ∷ element ∷ []

-- ---- how many sites are written

abbrev mutual
  pub draft_site_count : DraftTree → ℕ
  draft_site_count (draft.constant x) = 0
  draft_site_count (draft.group t) = draft_site_count t
  draft_site_count (draft.read f place name) = 0
  draft_site_count (draft.variable name) = 0
  draft_site_count (draft.isolate place t) = suc (draft_site_count t)
  draft_site_count (draft.stop t) = draft_site_count t
  draft_site_count (draft.require t cancels) = draft_site_count t
  draft_site_count (draft.fold place list start accumulator element body) = draft_site_count list + (draft_site_count start + draft_site_count body)
  draft_site_count (draft.unary op t) = draft_site_count t
  draft_site_count (draft.binary op a b) = draft_site_count a + draft_site_count b
  draft_site_count (draft.choice condition m n) = draft_site_count condition + (draft_site_count m + draft_site_count n)
  draft_site_count (draft.call f ts) = draft_site_count_all ts

  pub draft_site_count_all : DraftTrees → ℕ
  draft_site_count_all draft.no_trees = 0
  draft_site_count_all (draft.tree t more) = draft_site_count t + draft_site_count_all more

abbrev pub deed_site_count : DraftDeed → ℕ
deed_site_count (draft.set name t) = draft_site_count t
deed_site_count (draft.invoke name ts) = draft_site_count_all ts
deed_site_count (draft.update name t) = draft_site_count t
deed_site_count (draft.freeze name) = 0

abbrev mutual
  pub act_site_count : DraftAct → ℕ
  act_site_count (draft.write w) = deed_site_count w.deed
  act_site_count (draft.perform t) = draft_site_count t
  act_site_count (draft.branch t block) = draft_site_count t + acts_site_count block
  act_site_count (draft.branch_else t block other) = draft_site_count t + (acts_site_count block + acts_site_count other)

  pub acts_site_count : DraftActs → ℕ
  acts_site_count draft.no_acts = 0
  acts_site_count (draft.act a more) = act_site_count a + acts_site_count more

-- ---- terms

-- a term whose first site has number n; sites are numbered in the order of their first words
abbrev mutual
  pub resolved_tree : List Declared → List (List ℕ) → ℕ → DraftTree → Tree
  resolved_tree table scope n (draft.constant x) = app.constant x
  resolved_tree table scope n (draft.group t) = app.group (resolved_tree table scope n t)
  resolved_tree table scope n (draft.read f place name) = app.get (resolved_read table f name.text)
  resolved_tree table scope n (draft.variable name) = app.variable (number_or_zero (innermost name.text scope))
  resolved_tree table scope n (draft.isolate place t) = app.isolate n (resolved_tree table scope (suc n) t)
  resolved_tree table scope n (draft.stop t) = app.stop (resolved_tree table scope n t)
  resolved_tree table scope n (draft.require t cancels) = app.require (resolved_tree table scope n t) cancels
  resolved_tree table scope n (draft.fold place list start accumulator element body) =
      app.fold (resolved_tree table scope n list)
      (resolved_tree table scope (n + draft_site_count list) start)
      accumulator.text element.text
      (resolved_tree table (inner_scope scope accumulator.text element.text) (n + draft_site_count list + draft_site_count start) body)
  resolved_tree table scope n (draft.unary op t) = app.unary op (resolved_tree table scope n t)
  resolved_tree table scope n (draft.binary op a b) =
      app.binary op (resolved_tree table scope n a) (resolved_tree table scope (n + draft_site_count a) b)
  resolved_tree table scope n (draft.choice condition chosen otherwise) =
      app.choice (resolved_tree table scope n condition)
      (resolved_tree table scope (n + draft_site_count condition) chosen)
      (resolved_tree table scope (n + draft_site_count condition + draft_site_count chosen) otherwise)
  resolved_tree table scope n (draft.call f ts) = app.call f (resolved_trees table scope n ts)

  pub resolved_trees : List Declared → List (List ℕ) → ℕ → DraftTrees → Trees
  resolved_trees table scope n draft.no_trees = app.no_trees
  resolved_trees table scope n (draft.tree t more) =
      app.tree (resolved_tree table scope n t) (resolved_trees table scope (n + draft_site_count t) more)

-- ---- statements, which have no variables

abbrev pub resolved_deed : List Declared → ℕ → DraftDeed → Act
resolved_deed table n (draft.set name t) = app.set (number_named table is_value_sort name.text) (resolved_tree table [] n t)
resolved_deed table n (draft.invoke name ts) = app.invoke (number_named table is_task_sort name.text) (resolved_trees table [] n ts)
resolved_deed table n (draft.update name t) = app.update (number_named table is_input_sort name.text) (resolved_tree table [] n t)
resolved_deed table n (draft.freeze name) = app.freeze (number_named table is_input_sort name.text)

abbrev mutual
  pub resolved_act : List Declared → ℕ → DraftAct → Act
  resolved_act table n (draft.write w) = resolved_deed table n w.deed
  resolved_act table n (draft.perform t) = app.perform (resolved_tree table [] n t)
  resolved_act table n (draft.branch t block) = app.branch (resolved_tree table [] n t) (resolved_acts table (n + draft_site_count t) block)
  resolved_act table n (draft.branch_else t block other) =
      app.branch_else (resolved_tree table [] n t)
      (resolved_acts table (n + draft_site_count t) block)
      (resolved_acts table (n + draft_site_count t + acts_site_count block) other)

  pub resolved_acts : List Declared → ℕ → DraftActs → Acts
  resolved_acts table n draft.no_acts = app.no_acts
  resolved_acts table n (draft.act a more) = app.act (resolved_act table n a) (resolved_acts table (n + act_site_count a) more)

-- ---- items

-- the keys stand before the body; writes in a body are refused and stand for nothing
abbrev pub resolved_output : List Declared → WrittenOutput → Shown
resolved_output table shown = record {
  priority = shown.priority;
  while_hidden = shown.while_hidden;
  keys = resolved_trees table [] 0 shown.keys;
  body = resolved_tree table [] (draft_site_count_all shown.keys) shown.body.term;
}

-- what is behind an event term is a site itself, whose number is the next behind those of the event term
abbrev pub resolved_form : List Declared → List ℕ → WrittenForm → Node
resolved_form table name (draft.input start) = app.input name start
resolved_form table name (draft.value start) = app.value name start
resolved_form table name (draft.task parameters body) =
    app.task name (map text_of_name parameters) (resolved_tree table (map text_of_name parameters) 0 body)
resolved_form table name (draft.reactive keys body) =
    app.reactive name (resolved_trees table [] 0 keys) (resolved_tree table [] (draft_site_count_all keys) body.term)
resolved_form table name (draft.event flags e body) =
    app.event name flags (resolved_tree table [] 0 e) (resolved_tree table [] (suc (draft_site_count e)) body.term)
resolved_form table name (draft.text shown) = app.text name (resolved_output table shown)
resolved_form table name (draft.plot shown) = app.plot name (resolved_output table shown)
resolved_form table name (draft.observe priority block) = app.observe name priority (resolved_acts table 0 block)
resolved_form table name (draft.on priority flags e block) =
    app.on name priority flags (resolved_tree table [] 0 e) (resolved_acts table (suc (draft_site_count e)) block)

abbrev pub resolved_item : List Declared → WrittenItem → Node
resolved_item table i = resolved_form table i.name.text i.form

-- the app that a draft stands for where no check refuses it
abbrev pub resolved : DraftShape → Shape
resolved d = record { budget = d.budget; items = map (resolved_item (declarations d.items)) d.items }
