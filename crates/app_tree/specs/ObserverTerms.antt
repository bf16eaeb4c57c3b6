-- How many terms an observer has, which bounds what its run can evaluate.
use Rattle.std.specs.Prelude.{ℕ, suc, ◌+◌, max, List, [], ◌∷◌}
use Rattle.app_tree.specs.Tree.{Trees, no_trees, tree, Act, set, invoke, update, freeze, perform, branch, branch_else, Acts, no_acts, act, Node, observe, on, Shape}

abbrev pub term_count : Trees → ℕ
term_count no_trees = 0
term_count (tree t more) = suc (term_count more)

-- the terms that stand in a statement outside of one another, each argument of an `invoke` among them
abbrev mutual
  pub terms_in_act : Act → ℕ
  terms_in_act (set s t) = 1
  terms_in_act (invoke s ts) = term_count ts
  terms_in_act (update s t) = 1
  terms_in_act (freeze s) = 0
  terms_in_act (perform t) = 1
  terms_in_act (branch t block) = suc (terms_in_acts block)
  terms_in_act (branch_else t block other) = suc (terms_in_acts block + terms_in_acts other)

  pub terms_in_acts : Acts → ℕ
  terms_in_acts no_acts = 0
  terms_in_acts (act a more) = terms_in_act a + terms_in_acts more

-- with the event term; no other reader has statements
abbrev pub observer_terms : Node → ℕ
observer_terms (observe name priority block) = terms_in_acts block
observer_terms (on name priority flags e block) = suc (terms_in_acts block)
observer_terms _ = 0

abbrev pub most_terms : List Node → ℕ
most_terms [] = 1
most_terms (i ∷ more) = max (observer_terms i) (most_terms more)

-- the greatest number of terms of one observer, and at least 1
abbrev pub terms : Shape → ℕ
terms app = most_terms app.items
