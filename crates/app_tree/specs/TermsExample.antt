-- How many terms the observers of an app have.
use Rattle.std.specs.Prelude.{◌≡◌, false, pos, [], ◌∷◌, codes}
use Rattle.rx_value.specs.declared.value.Value.TheVariants.{Null, Int}
use Rattle.app_tree.specs.Tree.{Tree, constant, no_trees, tree, set, invoke, freeze, perform, branch_else, Acts, no_acts, act, input, observe, on}
use Rattle.app_tree.specs.ObserverTerms.{terms}

-- `set v = 1; invoke t(1, 1, 1);`
abbrev pub four_terms : Acts
four_terms = act (set 1 one) (act (invoke 2 (tree one (tree one (tree one no_trees)))) no_acts)
  where
    one : Tree
    one = constant (Int (pos 1))

-- `observe a { set v = 1; invoke t(1, 1, 1); }`, and `on b (NULL) { if (NULL) { set v = 1; invoke t(1, 1, 1); } else { freeze i; do NULL; } }`
abbrev pub CountsTerms : Type 0
CountsTerms =
    terms (record {
      budget = 1000;
      items =
          observe (codes "a") (pos 0) four_terms
          ∷ on (codes "b") (pos 0) (record { allow_null = false; ignore_init = false }) null
          (act (branch_else null four_terms (act (freeze 0) (act (perform null) no_acts))) no_acts)
          ∷ [];
    }) ≡ 7
  where
    null : Tree
    null = constant Null

abbrev pub CountsOneAtLeast : Type 0
CountsOneAtLeast = terms (record { budget = 1000; items = input (codes "i") Null ∷ [] }) ≡ 1
