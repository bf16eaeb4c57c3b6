-- What the forms of term that take several steps mean.
use Rattle.std.proofs.Common.{◌≡◌, ℕ, List, sym, ap, ◌∙◌}
use Rattle.rx_value.specs.declared.value.Value.TheVariants as v
use Rattle.app_tree.specs.declared.term.Operator.{Operator}
use Rattle.app_tree.specs.declared.term.Function.{Function}
use Rattle.app_tree.specs.declared.term.Term.{Term}
use Rattle.app_tree.specs.declared.term.Term.TheOpen.{Term-F}
use Rattle.app_tree.specs.declared.term.Term.TheFolds.{fold-roll-Term}
use Rattle.app_tree.specs.declared.term.Term.TheVariants.{Text, Fold, Binary, If, Call, rolls-Text, rolls-Fold, rolls-Binary, rolls-If, rolls-Call}
use Rattle.app_tree.specs.Tree.{Tree, constant, fold, binary, choice, call}
use Rattle.app_tree.specs.View.{term_step, tree_of, trees_of_terms}

pub tree_of-Text : (t : List ℕ) → tree_of (Text t) ≡ constant (v.Text t)
tree_of-Text t = ap tree_of (sym (rolls-Text t)) ∙ fold-roll-Term Tree term_step (Term-F.Text t)

pub tree_of-Fold : (l z : Term) (a x : List ℕ) (b : Term) → tree_of (Fold l z a x b) ≡ fold (tree_of l) (tree_of z) a x (tree_of b)
tree_of-Fold l z a x b = ap tree_of (sym (rolls-Fold l z a x b)) ∙ fold-roll-Term Tree term_step (Term-F.Fold l z a x b)

pub tree_of-Binary : (op : Operator) (a b : Term) → tree_of (Binary op a b) ≡ binary op (tree_of a) (tree_of b)
tree_of-Binary op a b = ap tree_of (sym (rolls-Binary op a b)) ∙ fold-roll-Term Tree term_step (Term-F.Binary op a b)

pub tree_of-If : (a b c : Term) → tree_of (If a b c) ≡ choice (tree_of a) (tree_of b) (tree_of c)
tree_of-If a b c = ap tree_of (sym (rolls-If a b c)) ∙ fold-roll-Term Tree term_step (Term-F.If a b c)

pub tree_of-Call : (f : Function) (ts : List Term) → tree_of (Call f ts) ≡ call f (trees_of_terms ts)
tree_of-Call f ts = ap tree_of (sym (rolls-Call f ts)) ∙ fold-roll-Term Tree term_step (Term-F.Call f ts)
