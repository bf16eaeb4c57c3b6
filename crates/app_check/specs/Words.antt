-- Drafts whose item names can be read back: each is a word of the language that isn't reserved, where the item is declared
-- and where it is used. That parameters and variables are named by such words is said of each draft that fits.
use Rattle.std.specs.Prelude.{Bool, true, ◌&&◌}
use Rattle.std.specs.List.{list_all}
use Rattle.app_tree.specs.DraftTree.{DraftTree, constant, group, read, variable, isolate, stop, require, fold, unary, binary, choice, call, DraftTrees, no_trees, tree, DraftDeed, set, invoke, update, freeze, DraftAct, write, perform, branch, branch_else, DraftActs, no_acts, act, WrittenBody, WrittenOutput, WrittenForm, input, value, task, reactive, event, text, plot, observe, on, WrittenItem, DraftShape}
use Rattle.app_tree.specs.Fits.{name_fits}

abbrev mutual
  pub term_has_words : DraftTree → Bool
  term_has_words (constant k) = true
  term_has_words (group t) = term_has_words t
  term_has_words (read form place name) = name_fits name
  term_has_words (variable name) = true
  term_has_words (isolate place t) = term_has_words t
  term_has_words (stop t) = term_has_words t
  term_has_words (require t cancels) = term_has_words t
  term_has_words (fold place list start accumulator element body) =
      term_has_words list && term_has_words start && term_has_words body
  term_has_words (unary op t) = term_has_words t
  term_has_words (binary op left right) = term_has_words left && term_has_words right
  term_has_words (choice condition chosen otherwise) =
      term_has_words condition && term_has_words chosen && term_has_words otherwise
  term_has_words (call f ts) = terms_have_words ts

  pub terms_have_words : DraftTrees → Bool
  terms_have_words no_trees = true
  terms_have_words (tree t ts) = term_has_words t && terms_have_words ts

abbrev pub deed_has_words : DraftDeed → Bool
deed_has_words (set name t) = name_fits name && term_has_words t
deed_has_words (invoke name ts) = name_fits name && terms_have_words ts
deed_has_words (update name t) = name_fits name && term_has_words t
deed_has_words (freeze name) = name_fits name

abbrev mutual
  pub act_has_words : DraftAct → Bool
  act_has_words (write w) = deed_has_words w.deed
  act_has_words (perform t) = term_has_words t
  act_has_words (branch t block) = term_has_words t && acts_have_words block
  act_has_words (branch_else t block other) = term_has_words t && acts_have_words block && acts_have_words other

  pub acts_have_words : DraftActs → Bool
  acts_have_words no_acts = true
  acts_have_words (act a more) = act_has_words a && acts_have_words more

abbrev pub body_has_words : WrittenBody → Bool
body_has_words body = list_all (λ w. deed_has_words w.deed) body.writes && term_has_words body.term

abbrev pub output_has_words : WrittenOutput → Bool
output_has_words output = terms_have_words output.keys && body_has_words output.body

abbrev pub form_has_words : WrittenForm → Bool
form_has_words (input start) = true
form_has_words (value start) = true
form_has_words (task parameters body) = term_has_words body
form_has_words (reactive keys body) = terms_have_words keys && body_has_words body
form_has_words (event flags e body) = term_has_words e && body_has_words body
form_has_words (text output) = output_has_words output
form_has_words (plot output) = output_has_words output
form_has_words (observe priority block) = acts_have_words block
form_has_words (on priority flags e block) = term_has_words e && acts_have_words block

abbrev pub item_has_words : WrittenItem → Bool
item_has_words item = name_fits item.name && form_has_words item.form

-- each name of an item in the draft is a word that isn't reserved
abbrev pub has_words : DraftShape → Bool
has_words draft = list_all item_has_words draft.items
