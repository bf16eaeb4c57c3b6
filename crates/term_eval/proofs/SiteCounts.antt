-- The sites of the terms from a place on.
use Rattle.std.proofs.Common.{◌≡◌, ℕ, ◌+◌, ◌<◌, ◌≤◌, List, length, drop, get_or, ap, arith}
use Rattle.std.proofs.lemmas.List.{drop_all}
use Rattle.app_tree.specs.declared.term.Term.{Term}
use Rattle.app_tree.specs.View.{tree_of, trees_of_terms}
use Rattle.app_tree.specs.Evaluate.{site_count, site_count_all}
use Rattle.term_eval.proofs.Walking.{at_front}

pub sites_from : (ts : List Term) (i : ℕ) (t : Term) → i < length ts → t ≡ get_or ts i t
    → site_count_all (trees_of_terms (drop i ts)) ≡ site_count (tree_of t) + site_count_all (trees_of_terms (drop (i + 1) ts))
sites_from ts i t h q = ap (λ l. site_count_all (trees_of_terms l)) (at_front ts i t h q)

pub sites_behind : (ts : List Term) (i : ℕ) → length ts ≤ i → site_count_all (trees_of_terms (drop i ts)) ≡ 0
sites_behind ts i h = ap (λ l. site_count_all (trees_of_terms l)) (drop_all i ts h)

pub one_more : (count n total here rest before next : ℕ) → count + before ≡ total → before ≡ here + rest → n ≡ here → next ≡ count + n → next + rest ≡ total
one_more count n total here rest before next h k l m = omega arith

pub none_left : (count total rest : ℕ) → count + rest ≡ total → rest ≡ 0 → count ≡ total
none_left count total rest h k = omega arith
