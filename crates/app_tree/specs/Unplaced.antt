-- A draft without its places: every place is 0.
use Rattle.std.specs.Prelude.{map}
use Rattle.app_tree.specs.declared.draft_term.Name.{Name}
use Rattle.app_tree.specs.DraftTree as draft
use Rattle.app_tree.specs.DraftTree.{DraftTree, DraftTrees, DraftDeed, WrittenDeed, DraftAct, DraftActs, WrittenBody, WrittenOutput, WrittenForm, WrittenItem, DraftShape}
use Rattle.app_tree.specs.Named.{unplaced_name}

abbrev pub unplaced_of : Name → Name
unplaced_of name = unplaced_name name.text

abbrev mutual
  pub unplaced_tree : DraftTree → DraftTree
  unplaced_tree (draft.constant x) = draft.constant x
  unplaced_tree (draft.group t) = draft.group (unplaced_tree t)
  unplaced_tree (draft.read f place name) = draft.read f 0 (unplaced_of name)
  unplaced_tree (draft.variable name) = draft.variable (unplaced_of name)
  unplaced_tree (draft.isolate place t) = draft.isolate 0 (unplaced_tree t)
  unplaced_tree (draft.stop t) = draft.stop (unplaced_tree t)
  unplaced_tree (draft.require t cancels) = draft.require (unplaced_tree t) cancels
  unplaced_tree (draft.fold place list start accumulator element body) =
      draft.fold 0 (unplaced_tree list) (unplaced_tree start) (unplaced_of accumulator) (unplaced_of element) (unplaced_tree body)
  unplaced_tree (draft.unary op t) = draft.unary op (unplaced_tree t)
  unplaced_tree (draft.binary op a b) = draft.binary op (unplaced_tree a) (unplaced_tree b)
  unplaced_tree (draft.choice condition chosen otherwise) =
      draft.choice (unplaced_tree condition) (unplaced_tree chosen) (unplaced_tree otherwise)
  unplaced_tree (draft.call f ts) = draft.call f (unplaced_trees ts)

  pub unplaced_trees : DraftTrees → DraftTrees
  unplaced_trees draft.no_trees = draft.no_trees
  unplaced_trees (draft.tree t more) = draft.tree (unplaced_tree t) (unplaced_trees more)

abbrev pub unplaced_deed : DraftDeed → DraftDeed
unplaced_deed (draft.set name t) = draft.set (unplaced_of name) (unplaced_tree t)
unplaced_deed (draft.invoke name ts) = draft.invoke (unplaced_of name) (unplaced_trees ts)
unplaced_deed (draft.update name t) = draft.update (unplaced_of name) (unplaced_tree t)
unplaced_deed (draft.freeze name) = draft.freeze (unplaced_of name)

abbrev pub unplaced_written : WrittenDeed → WrittenDeed
unplaced_written w = record { place = 0; deed = unplaced_deed w.deed }

abbrev mutual
  pub unplaced_act : DraftAct → DraftAct
  unplaced_act (draft.write w) = draft.write (unplaced_written w)
  unplaced_act (draft.perform t) = draft.perform (unplaced_tree t)
  unplaced_act (draft.branch t block) = draft.branch (unplaced_tree t) (unplaced_acts block)
  unplaced_act (draft.branch_else t block other) = draft.branch_else (unplaced_tree t) (unplaced_acts block) (unplaced_acts other)

  pub unplaced_acts : DraftActs → DraftActs
  unplaced_acts draft.no_acts = draft.no_acts
  unplaced_acts (draft.act a more) = draft.act (unplaced_act a) (unplaced_acts more)

abbrev pub unplaced_body : WrittenBody → WrittenBody
unplaced_body body = record { writes = map unplaced_written body.writes; term = unplaced_tree body.term }

abbrev pub unplaced_output : WrittenOutput → WrittenOutput
unplaced_output shown = record {
  priority = shown.priority;
  while_hidden = shown.while_hidden;
  keys = unplaced_trees shown.keys;
  body = unplaced_body shown.body;
}

abbrev pub unplaced_form : WrittenForm → WrittenForm
unplaced_form (draft.input start) = draft.input start
unplaced_form (draft.value start) = draft.value start
unplaced_form (draft.task parameters body) = draft.task (map unplaced_of parameters) (unplaced_tree body)
unplaced_form (draft.reactive keys body) = draft.reactive (unplaced_trees keys) (unplaced_body body)
unplaced_form (draft.event flags e body) = draft.event flags (unplaced_tree e) (unplaced_body body)
unplaced_form (draft.text shown) = draft.text (unplaced_output shown)
unplaced_form (draft.plot shown) = draft.plot (unplaced_output shown)
unplaced_form (draft.observe priority block) = draft.observe priority (unplaced_acts block)
unplaced_form (draft.on priority flags e block) = draft.on priority flags (unplaced_tree e) (unplaced_acts block)

abbrev pub unplaced_item : WrittenItem → WrittenItem
unplaced_item i = record { place = 0; name = unplaced_of i.name; form = unplaced_form i.form }

abbrev pub unplaced : DraftShape → DraftShape
unplaced d = record { budget = d.budget; items = map unplaced_item d.items }
