-- The data that the types of drafts in `src/` stand for.
use Rattle.std.specs.Prelude.{List, [], ◌∷◌, map}
use Rattle.rx_value.specs.declared.value.Value.TheVariants as v
use Rattle.app_tree.specs.Held.{HeldDraft}
use Rattle.app_tree.specs.DraftTree.{DraftTree, constant, group, read, variable, isolate, stop, require, fold, unary, binary, choice, call, DraftTrees, no_trees, tree, DraftDeed, set, invoke, update, freeze, WrittenDeed, DraftAct, write, perform, branch, branch_else, DraftActs, no_acts, act, WrittenBody, WrittenOutput, WrittenForm, input, value, task, reactive, event, text, plot, observe, on, WrittenItem, DraftShape}
use Rattle.app_tree.specs.declared.draft_term.DraftTerm.{DraftTerm}
use Rattle.app_tree.specs.declared.draft_term.DraftTerm.TheOpen.{DraftTerm-F}
use Rattle.app_tree.specs.declared.draft_term.DraftTerm.TheFolds.{fold-DraftTerm}
use Rattle.app_tree.specs.declared.draft_item.DraftAction.{DraftAction}
use Rattle.app_tree.specs.declared.draft_item.DraftAction.TheVariants as action
use Rattle.app_tree.specs.declared.draft_item.DraftWrite.{DraftWrite}
use Rattle.app_tree.specs.declared.draft_item.DraftStatement.{DraftStatement}
use Rattle.app_tree.specs.declared.draft_item.DraftStatement.TheOpen.{DraftStatement-F}
use Rattle.app_tree.specs.declared.draft_item.DraftStatement.TheFolds.{fold-DraftStatement}
use Rattle.app_tree.specs.declared.draft_item.DraftBody.{DraftBody}
use Rattle.app_tree.specs.declared.draft_item.DraftOutput.{DraftOutput}
use Rattle.app_tree.specs.declared.draft_item.DraftForm.{DraftForm}
use Rattle.app_tree.specs.declared.draft_item.DraftForm.TheVariants as form
use Rattle.app_tree.specs.declared.draft_item.DraftItem.{DraftItem}

abbrev pub draft_trees : List DraftTree → DraftTrees
draft_trees [] = no_trees
draft_trees (t ∷ more) = tree t (draft_trees more)

-- one level of a term, with each term inside already seen as its data
abbrev pub draft_step : DraftTerm-F DraftTree → DraftTree
draft_step DraftTerm-F.Null = constant v.Null
draft_step (DraftTerm-F.Bool b) = constant (v.Bool b)
draft_step (DraftTerm-F.Int z) = constant (v.Int z)
draft_step (DraftTerm-F.Text t) = constant (v.Text t)
draft_step (DraftTerm-F.Group t) = group t
draft_step (DraftTerm-F.Read form place name) = read form place name
draft_step (DraftTerm-F.Variable name) = variable name
draft_step (DraftTerm-F.Isolate place t) = isolate place t
draft_step (DraftTerm-F.Stop t) = stop t
draft_step (DraftTerm-F.Require t cancels) = require t cancels
draft_step (DraftTerm-F.Fold place list start accumulator element body) = fold place list start accumulator element body
draft_step (DraftTerm-F.Unary op t) = unary op t
draft_step (DraftTerm-F.Binary op a b) = binary op a b
draft_step (DraftTerm-F.If condition chosen otherwise) = choice condition chosen otherwise
draft_step (DraftTerm-F.Call f ts) = call f (draft_trees ts)

abbrev pub draft_tree_of : DraftTerm → DraftTree
draft_tree_of = fold-DraftTerm DraftTree draft_step

abbrev pub draft_trees_of : List DraftTerm → DraftTrees
draft_trees_of ts = draft_trees (map draft_tree_of ts)

abbrev pub deed_of : DraftAction → DraftDeed
deed_of (action.Set name t) = set name (draft_tree_of t)
deed_of (action.Invoke name ts) = invoke name (draft_trees_of ts)
deed_of (action.Update name t) = update name (draft_tree_of t)
deed_of (action.Freeze name) = freeze name

abbrev pub write_of : DraftWrite → WrittenDeed
write_of w = record { place = w.place; deed = deed_of w.action }

abbrev pub draft_acts : List DraftAct → DraftActs
draft_acts [] = no_acts
draft_acts (a ∷ more) = act a (draft_acts more)

-- one level of a statement
abbrev pub draft_statement_step : DraftStatement-F DraftAct → DraftAct
draft_statement_step (DraftStatement-F.Write w) = write (write_of w)
draft_statement_step (DraftStatement-F.Do t) = perform (draft_tree_of t)
draft_statement_step (DraftStatement-F.If t block) = branch (draft_tree_of t) (draft_acts block)
draft_statement_step (DraftStatement-F.IfElse t block other) = branch_else (draft_tree_of t) (draft_acts block) (draft_acts other)

abbrev pub draft_act_of : DraftStatement → DraftAct
draft_act_of = fold-DraftStatement DraftAct draft_statement_step

abbrev pub draft_acts_of : List DraftStatement → DraftActs
draft_acts_of block = draft_acts (map draft_act_of block)

abbrev pub written_body : DraftBody → WrittenBody
written_body body = record { writes = map write_of body.writes; term = draft_tree_of body.term }

abbrev pub written_output : DraftOutput → WrittenOutput
written_output output = record { priority = output.priority; while_hidden = output.while_hidden; keys = draft_trees_of output.keys; body = written_body output.body }

abbrev pub written_form : DraftForm → WrittenForm
written_form (form.Input start) = input start
written_form (form.Value start) = value start
written_form (form.Task parameters body) = task parameters (draft_tree_of body)
written_form (form.Reactive keys body) = reactive (draft_trees_of keys) (written_body body)
written_form (form.Event flags e body) = event flags (draft_tree_of e) (written_body body)
written_form (form.Text output) = text (written_output output)
written_form (form.Plot output) = plot (written_output output)
written_form (form.Observe priority block) = observe priority (draft_acts_of block)
written_form (form.On priority flags e block) = on priority flags (draft_tree_of e) (draft_acts_of block)

abbrev pub written_item : DraftItem → WrittenItem
written_item item = record { place = item.place; name = item.name; form = written_form item.form }

-- what a `Draft` stands for
abbrev pub draft_shape_of : HeldDraft → DraftShape
draft_shape_of held = record { budget = held.budget; items = map written_item held.items }
