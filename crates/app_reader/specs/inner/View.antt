-- What the code has, as plain data.
use Rattle.std.specs.Prelude.{ℕ, List, map}
use Rattle.std.specs.Borrow.{Bor}
use Rattle.app_tree.specs.declared.draft_term.Name.{Name}
use Rattle.app_tree.specs.declared.draft_term.DraftTerm.{DraftTerm}
use Rattle.app_tree.specs.declared.draft_item.DraftStatement.{DraftStatement}
use Rattle.app_tree.specs.declared.draft_item.DraftWrite.{DraftWrite}
use Rattle.app_tree.specs.declared.draft_item.DraftItem.{DraftItem}
use Rattle.app_tree.specs.DraftTree.{DraftTree, DraftAct, WrittenDeed, WrittenItem, DraftShape}
use Rattle.app_tree.specs.DraftView.{draft_tree_of, draft_act_of, write_of, written_item, draft_shape_of}

abbrev pub trees_of : List DraftTerm → List DraftTree
trees_of = map draft_tree_of

abbrev pub acts_of : List DraftStatement → List DraftAct
acts_of = map draft_act_of

abbrev pub deeds_of : List DraftWrite → List WrittenDeed
deeds_of = map write_of

abbrev pub items_of : List DraftItem → List WrittenItem
items_of = map written_item

abbrev pub number_now : Bor ℕ → ℕ
number_now number = number.now

-- the two ways of an `if` term
abbrev pub ways_of : DraftTerm × DraftTerm → DraftTree × DraftTree
ways_of ways = (draft_tree_of ways.0, draft_tree_of ways.1)

-- a name, and the term that it is given
abbrev pub assigned_of : Name × DraftTerm → Name × DraftTree
assigned_of a = (a.0, draft_tree_of a.1)

-- the draft of a budget and of items
abbrev pub shape_of_parts : ℕ × List DraftItem → DraftShape
shape_of_parts parts = draft_shape_of (record { budget = parts.0; items = parts.1 })
