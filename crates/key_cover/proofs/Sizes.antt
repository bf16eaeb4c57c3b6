-- How large what is walked is: what falls where the walk goes on.
use Rattle.std.proofs.Common.{◌≡◌, inl, inr, ℕ, zero, suc, ◌+◌, ◌<◌, ◌≤◌, List, [], ◌∷◌, length, get_or, Option, Some, sym, subst, arith}
use Rattle.std.proofs.lemmas.Bool.Decides.{eqb_tells}
use Rattle.app_tree.specs.declared.term.Term.{Term}
use Rattle.app_tree.specs.Tree.{Tree, constant, group, get, variable, isolate, stop, require, fold, unary, binary, choice, call, Trees, no_trees, tree, Node, reactive, event, Shape}
use Rattle.app_tree.specs.Numbering.{reader}
use Rattle.app_tree.specs.View.{tree_of, trees_of_terms}

-- how many terms there are in a term, with itself
abbrev mutual
  pub tree_size : Tree → ℕ
  tree_size (constant x) = 1
  tree_size (group t) = suc (tree_size t)
  tree_size (get r) = 1
  tree_size (variable n) = 1
  tree_size (isolate site t) = suc (tree_size t)
  tree_size (stop t) = suc (tree_size t)
  tree_size (require t cancels) = suc (tree_size t)
  tree_size (fold list start accumulator element body) = suc (tree_size list + (tree_size start + tree_size body))
  tree_size (unary op t) = suc (tree_size t)
  tree_size (binary op a b) = suc (tree_size a + tree_size b)
  tree_size (choice condition a b) = suc (tree_size condition + (tree_size a + tree_size b))
  tree_size (call f ts) = suc (trees_size ts)

  pub trees_size : Trees → ℕ
  trees_size no_trees = 0
  trees_size (tree t more) = tree_size t + trees_size more

abbrev pub node_size : Option Node → ℕ
node_size (Some (reactive name keys body)) = suc (suc (trees_size keys + tree_size body))
node_size (Some (event name flags e body)) = suc (suc (tree_size e))
node_size _ = 1

-- of all readers of a number below this one
abbrev pub size_below : Shape → ℕ → ℕ
size_below app zero = 0
size_below app (suc n) = size_below app n + node_size (reader app n)

-- a term among others is no larger than all of them together
tree_size-get_or : (ts : List Term) (i : ℕ) (t : Term) → i < length ts → tree_size (tree_of (get_or ts i t)) ≤ trees_size (trees_of_terms ts)
tree_size-get_or [] i t within = absurd (omega (arith, within))
tree_size-get_or (x ∷ ts) zero t within = omega arith
tree_size-get_or (x ∷ ts) (suc i) t within =
    let rest = tree_size-get_or ts i t (omega (arith, within)) in
    omega (arith, rest)

pub tree_size-item : (ts : List Term) (i : ℕ) (t : Term) → i < length ts → t ≡ get_or ts i t → tree_size (tree_of t) ≤ trees_size (trees_of_terms ts)
tree_size-item ts i t within is =
    subst (λ (x : Term). tree_size (tree_of x) ≤ trees_size (trees_of_terms ts)) (sym is) (tree_size-get_or ts i t within)

-- a reader that stands before is a part of all that do
pub size_below-before : (app : Shape) (n m : ℕ) → m < n → size_below app m + node_size (reader app m) ≤ size_below app n
size_below-before app zero m h = absurd (omega (h, arith))
size_below-before app (suc n) m h = elim (eqb_tells m n) [
  | inl p ↦ subst (λ k. size_below app k + node_size (reader app k) ≤ size_below app (suc n)) (sym p.1) (omega arith)
  | inr p ↦ let other = p.1 in let rest = size_below-before app n m (omega (h, other, arith)) in omega (arith, rest)
]
