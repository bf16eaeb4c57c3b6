-- The draft in which an app is written has no places.
use Rattle.std.proofs.Common.{◌≡◌, ℕ, List, [], ◌∷◌, refl, ap, ap₂, map}
use Rattle.app_tree.specs.Tree as app
use Rattle.app_tree.specs.Tree.{Tree, Trees, Act, Acts, Shown, Node}
use Rattle.app_tree.specs.DraftTree as draft
use Rattle.app_tree.specs.DraftTree.{DraftTree, DraftTrees, DraftActs, WrittenBody, WrittenForm, WrittenItem}
use Rattle.app_tree.specs.declared.draft_term.Name.{Name}
use Rattle.app_tree.specs.Declarations.{Declared, source_name, node_declarations}
use Rattle.app_tree.specs.Resolve.{inner_scope}
use Rattle.app_tree.specs.Numbering.{name_of}
use Rattle.app_tree.specs.Named.{unplaced_name, named_tree, named_trees, named_act, named_acts, named_body, named_output, named_node, named_item}
use Rattle.app_tree.specs.Unplaced.{unplaced_of, unplaced_tree, unplaced_trees, unplaced_act, unplaced_acts, unplaced_body, unplaced_output, unplaced_form, unplaced_item}
use Rattle.app_printer.specs.Laws.{NamedIsUnplaced}

fold_same : (a x : Name) (l l2 z z2 b b2 : DraftTree) → l ≡ l2 → z ≡ z2 → b ≡ b2 → draft.fold 0 l z a x b ≡ draft.fold 0 l2 z2 a x b2
fold_same a x l l2 z z2 b b2 e f g = cc

choice_same : (a a2 b b2 c c2 : DraftTree) → a ≡ a2 → b ≡ b2 → c ≡ c2 → draft.choice a b c ≡ draft.choice a2 b2 c2
choice_same a a2 b b2 c c2 e f g = cc

branch_else_same : (t u : DraftTree) (a b c d : DraftActs) → t ≡ u → a ≡ b → c ≡ d → draft.branch_else t a c ≡ draft.branch_else u b d
branch_else_same t u a b c d e f g = cc

mutual
  tree_unplaced : (table : List Declared) (scope : List (List ℕ)) (t : Tree) → unplaced_tree (named_tree table scope t) ≡ named_tree table scope t
  tree_unplaced table scope (app.constant x) = refl
  tree_unplaced table scope (app.group t) = ap draft.group (tree_unplaced table scope t)
  tree_unplaced table scope (app.get r) = refl
  tree_unplaced table scope (app.variable n) = refl
  tree_unplaced table scope (app.isolate site t) = ap (λ u. draft.isolate 0 u) (tree_unplaced table scope t)
  tree_unplaced table scope (app.stop t) = ap draft.stop (tree_unplaced table scope t)
  tree_unplaced table scope (app.require t cancels) = ap (λ u. draft.require u cancels) (tree_unplaced table scope t)
  tree_unplaced table scope (app.fold list start a x body) =
      fold_same (unplaced_name a) (unplaced_name x) _ _ _ _ _ _ (tree_unplaced table scope list) (tree_unplaced table scope start)
      (tree_unplaced table (inner_scope scope a x) body)
  tree_unplaced table scope (app.unary op t) = ap (draft.unary op) (tree_unplaced table scope t)
  tree_unplaced table scope (app.binary op a b) = ap₂ (draft.binary op) (tree_unplaced table scope a) (tree_unplaced table scope b)
  tree_unplaced table scope (app.choice a b c) =
      choice_same _ _ _ _ _ _ (tree_unplaced table scope a) (tree_unplaced table scope b) (tree_unplaced table scope c)
  tree_unplaced table scope (app.call f ts) = ap (draft.call f) (trees_unplaced table scope ts)

  trees_unplaced : (table : List Declared) (scope : List (List ℕ)) (ts : Trees) → unplaced_trees (named_trees table scope ts) ≡ named_trees table scope ts
  trees_unplaced table scope app.no_trees = refl
  trees_unplaced table scope (app.tree t ts) = ap₂ draft.tree (tree_unplaced table scope t) (trees_unplaced table scope ts)

mutual
  act_unplaced : (table : List Declared) (a : Act) → unplaced_act (named_act table a) ≡ named_act table a
  act_unplaced table (app.set s t) =
      ap (λ (u : DraftTree). draft.write (record { place = 0; deed = draft.set (unplaced_name (source_name table s)) u })) (tree_unplaced table [] t)
  act_unplaced table (app.invoke s ts) =
      ap (λ (us : DraftTrees). draft.write (record { place = 0; deed = draft.invoke (unplaced_name (source_name table s)) us })) (trees_unplaced table [] ts)
  act_unplaced table (app.update s t) =
      ap (λ (u : DraftTree). draft.write (record { place = 0; deed = draft.update (unplaced_name (source_name table s)) u })) (tree_unplaced table [] t)
  act_unplaced table (app.freeze s) = refl
  act_unplaced table (app.perform t) = ap draft.perform (tree_unplaced table [] t)
  act_unplaced table (app.branch t block) = ap₂ draft.branch (tree_unplaced table [] t) (acts_unplaced table block)
  act_unplaced table (app.branch_else t block other) =
      branch_else_same _ _ _ _ _ _ (tree_unplaced table [] t) (acts_unplaced table block) (acts_unplaced table other)

  acts_unplaced : (table : List Declared) (block : Acts) → unplaced_acts (named_acts table block) ≡ named_acts table block
  acts_unplaced table app.no_acts = refl
  acts_unplaced table (app.act a more) = ap₂ draft.act (act_unplaced table a) (acts_unplaced table more)

body_unplaced : (table : List Declared) (t : Tree) → unplaced_body (named_body table t) ≡ named_body table t
body_unplaced table t = ap (λ (u : DraftTree). record { writes = []; term = u }) (tree_unplaced table [] t)

output_unplaced : (table : List Declared) (shown : Shown) → unplaced_output (named_output table shown) ≡ named_output table shown
output_unplaced table shown =
    ap₂ (λ (ks : DraftTrees) (b : WrittenBody). record { priority = shown.priority; while_hidden = shown.while_hidden; keys = ks; body = b })
    (trees_unplaced table [] shown.keys) (body_unplaced table shown.body)

node_unplaced : (table : List Declared) (i : Node) → unplaced_form (named_node table i) ≡ named_node table i
node_unplaced table (app.input name start) = refl
node_unplaced table (app.value name start) = refl
node_unplaced table (app.task name parameters body) = ap₂ draft.task (names_unplaced parameters) (tree_unplaced table parameters body)
  where
    names_unplaced : (names : List (List ℕ)) → map unplaced_of (map unplaced_name names) ≡ map unplaced_name names
    names_unplaced [] = refl
    names_unplaced (n ∷ ns) = ap (λ xs. unplaced_name n ∷ xs) (names_unplaced ns)
node_unplaced table (app.reactive name keys body) = ap₂ draft.reactive (trees_unplaced table [] keys) (body_unplaced table body)
node_unplaced table (app.event name flags e body) = ap₂ (draft.event flags) (tree_unplaced table [] e) (body_unplaced table body)
node_unplaced table (app.text name shown) = ap draft.text (output_unplaced table shown)
node_unplaced table (app.plot name shown) = ap draft.plot (output_unplaced table shown)
node_unplaced table (app.observe name priority block) = ap (draft.observe priority) (acts_unplaced table block)
node_unplaced table (app.on name priority flags e block) = ap₂ (draft.on priority flags) (tree_unplaced table [] e) (acts_unplaced table block)

items_unplaced : (table : List Declared) (items : List Node) → map unplaced_item (map (named_item table) items) ≡ map (named_item table) items
items_unplaced table [] = refl
items_unplaced table (i ∷ items) =
    ap₂ (λ (x : WrittenItem) (xs : List WrittenItem). x ∷ xs)
    (ap (λ (f : WrittenForm). record { place = 0; name = unplaced_name (name_of i); form = f }) (node_unplaced table i)) (items_unplaced table items)

pub named_is_unplaced : NamedIsUnplaced
named_is_unplaced a = ap (λ (xs : List WrittenItem). record { budget = a.budget; items = xs }) (items_unplaced (node_declarations a.items) a.items)
