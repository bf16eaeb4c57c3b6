-- How large a term is: what falls where a function goes on inside a term.
use Rattle.std.proofs.Common.{◌≡◌, ℕ, zero, suc, ◌+◌, ◌<◌, ◌≤◌, List, [], ◌∷◌, length, get_or, sym, subst, arith}
use Rattle.app_tree.specs.declared.draft_term.DraftTerm.{DraftTerm}
use Rattle.app_tree.specs.DraftTree.{DraftTree, DraftTrees, constant, group, read, variable, isolate, stop, require, fold, unary, binary, choice, call, no_trees, tree}
use Rattle.app_tree.specs.DraftView.{draft_tree_of, draft_trees_of}

-- how many terms there are in a term, with itself
abbrev mutual
  pub tree_size : DraftTree → ℕ
  tree_size (constant x) = 1
  tree_size (group t) = suc (tree_size t)
  tree_size (read form place name) = 1
  tree_size (variable name) = 1
  tree_size (isolate place t) = suc (tree_size t)
  tree_size (stop t) = suc (tree_size t)
  tree_size (require t cancels) = suc (tree_size t)
  tree_size (fold place list start accumulator element body) = suc (tree_size list + (tree_size start + tree_size body))
  tree_size (unary op t) = suc (tree_size t)
  tree_size (binary op left right) = suc (tree_size left + tree_size right)
  tree_size (choice condition chosen otherwise) = suc (tree_size condition + (tree_size chosen + tree_size otherwise))
  tree_size (call f ts) = suc (trees_size ts)

  pub trees_size : DraftTrees → ℕ
  trees_size no_trees = 0
  trees_size (tree t more) = tree_size t + trees_size more

-- a term among others is no larger than all of them together
tree_size-get_or : (ts : List DraftTerm) (i : ℕ) (t : DraftTerm) → i < length ts → tree_size (draft_tree_of (get_or ts i t)) ≤ trees_size (draft_trees_of ts)
tree_size-get_or [] i t within = absurd (omega (arith, within))
tree_size-get_or (x ∷ ts) zero t within = omega arith
tree_size-get_or (x ∷ ts) (suc i) t within =
    let rest = tree_size-get_or ts i t (omega (arith, within)) in
    omega (arith, rest)

pub tree_size-item : (ts : List DraftTerm) (i : ℕ) (t : DraftTerm) → i < length ts → t ≡ get_or ts i t → tree_size (draft_tree_of t) ≤ trees_size (draft_trees_of ts)
tree_size-item ts i t within is =
    subst (λ (x : DraftTerm). tree_size (draft_tree_of x) ≤ trees_size (draft_trees_of ts)) (sym is) (tree_size-get_or ts i t within)
