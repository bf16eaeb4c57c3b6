-- An app as it is written: with the names of its numbers, and every place 0.
use Rattle.std.specs.Prelude.{ℕ, List, [], map, slice_get, unwrap_or}
use Rattle.app_tree.specs.declared.term.Read.{Read}
use Rattle.app_tree.specs.declared.term.Read.TheVariants as read
use Rattle.app_tree.specs.declared.draft_term.Name.{Name}
use Rattle.app_tree.specs.declared.draft_term.ReadForm.{ReadForm}
use Rattle.app_tree.specs.declared.draft_term.ReadForm.TheVariants as form
use Rattle.app_tree.specs.Tree as app
use Rattle.app_tree.specs.Tree.{Tree, Trees, Act, Acts, Shown, Node, Shape}
use Rattle.app_tree.specs.Numbering.{name_of}
use Rattle.app_tree.specs.DraftTree as draft
use Rattle.app_tree.specs.DraftTree.{DraftTree, DraftTrees, DraftDeed, DraftAct, DraftActs, WrittenBody, WrittenOutput, WrittenForm, WrittenItem, DraftShape}
use Rattle.app_tree.specs.Declarations.{Declared, node_declarations, source_name, reader_name}
use Rattle.app_tree.specs.Resolve.{inner_scope}

abbrev pub unplaced_name : List ℕ → Name
unplaced_name text = record { text = text; place = 0 }

-- ---- terms

abbrev pub named_form : Read → ReadForm
named_form (read.Input s) = form.Input
named_form (read.Value s) = form.Named
named_form (read.Expr n) = form.Named
named_form (read.Status s) = form.Status
named_form (read.Result s) = form.Result
named_form (read.Width n) = form.Width
named_form (read.Height n) = form.Height

abbrev pub name_of_read : List Declared → Read → List ℕ
name_of_read table (read.Input s) = source_name table s
name_of_read table (read.Value s) = source_name table s
name_of_read table (read.Expr n) = reader_name table n
name_of_read table (read.Status s) = source_name table s
name_of_read table (read.Result s) = source_name table s
name_of_read table (read.Width n) = reader_name table n
name_of_read table (read.Height n) = reader_name table n

abbrev pub variable_name : List (List ℕ) → ℕ → List ℕ
variable_name scope n = unwrap_or (slice_get scope n) []

abbrev mutual
  pub named_tree : List Declared → List (List ℕ) → Tree → DraftTree
  named_tree table scope (app.constant x) = draft.constant x
  named_tree table scope (app.group t) = draft.group (named_tree table scope t)
  named_tree table scope (app.get r) = draft.read (named_form r) 0 (unplaced_name (name_of_read table r))
  named_tree table scope (app.variable n) = draft.variable (unplaced_name (variable_name scope n))
  named_tree table scope (app.isolate site t) = draft.isolate 0 (named_tree table scope t)
  named_tree table scope (app.stop t) = draft.stop (named_tree table scope t)
  named_tree table scope (app.require t cancels) = draft.require (named_tree table scope t) cancels
  named_tree table scope (app.fold list start accumulator element body) =
      draft.fold 0 (named_tree table scope list) (named_tree table scope start) (unplaced_name accumulator) (unplaced_name element)
      (named_tree table (inner_scope scope accumulator element) body)
  named_tree table scope (app.unary op t) = draft.unary op (named_tree table scope t)
  named_tree table scope (app.binary op a b) = draft.binary op (named_tree table scope a) (named_tree table scope b)
  named_tree table scope (app.choice condition chosen otherwise) =
      draft.choice (named_tree table scope condition) (named_tree table scope chosen) (named_tree table scope otherwise)
  named_tree table scope (app.call f ts) = draft.call f (named_trees table scope ts)

  pub named_trees : List Declared → List (List ℕ) → Trees → DraftTrees
  named_trees table scope app.no_trees = draft.no_trees
  named_trees table scope (app.tree t more) = draft.tree (named_tree table scope t) (named_trees table scope more)

-- ---- statements

abbrev pub unplaced_write : DraftDeed → DraftAct
unplaced_write deed = draft.write (record { place = 0; deed = deed })

abbrev mutual
  pub named_act : List Declared → Act → DraftAct
  named_act table (app.set s t) = unplaced_write (draft.set (unplaced_name (source_name table s)) (named_tree table [] t))
  named_act table (app.invoke s ts) = unplaced_write (draft.invoke (unplaced_name (source_name table s)) (named_trees table [] ts))
  named_act table (app.update s t) = unplaced_write (draft.update (unplaced_name (source_name table s)) (named_tree table [] t))
  named_act table (app.freeze s) = unplaced_write (draft.freeze (unplaced_name (source_name table s)))
  named_act table (app.perform t) = draft.perform (named_tree table [] t)
  named_act table (app.branch t block) = draft.branch (named_tree table [] t) (named_acts table block)
  named_act table (app.branch_else t block other) =
      draft.branch_else (named_tree table [] t) (named_acts table block) (named_acts table other)

  pub named_acts : List Declared → Acts → DraftActs
  named_acts table app.no_acts = draft.no_acts
  named_acts table (app.act a more) = draft.act (named_act table a) (named_acts table more)

-- ---- items

abbrev pub named_body : List Declared → Tree → WrittenBody
named_body table t = record { writes = []; term = named_tree table [] t }

abbrev pub named_output : List Declared → Shown → WrittenOutput
named_output table shown = record {
  priority = shown.priority;
  while_hidden = shown.while_hidden;
  keys = named_trees table [] shown.keys;
  body = named_body table shown.body;
}

abbrev pub named_node : List Declared → Node → WrittenForm
named_node table (app.input name start) = draft.input start
named_node table (app.value name start) = draft.value start
named_node table (app.task name parameters body) = draft.task (map unplaced_name parameters) (named_tree table parameters body)
named_node table (app.reactive name keys body) = draft.reactive (named_trees table [] keys) (named_body table body)
named_node table (app.event name flags e body) = draft.event flags (named_tree table [] e) (named_body table body)
named_node table (app.text name shown) = draft.text (named_output table shown)
named_node table (app.plot name shown) = draft.plot (named_output table shown)
named_node table (app.observe name priority block) = draft.observe priority (named_acts table block)
named_node table (app.on name priority flags e block) = draft.on priority flags (named_tree table [] e) (named_acts table block)

abbrev pub named_item : List Declared → Node → WrittenItem
named_item table i = record { place = 0; name = unplaced_name (name_of i); form = named_node table i }

-- the draft in which an app is written
abbrev pub named : Shape → DraftShape
named app = record { budget = app.budget; items = map (named_item (node_declarations app.items)) app.items }
