-- What a term asks stands in its text, whatever the numbers of its sites.
use Rattle.std.proofs.Common.{ℤ, Bool, true, false, List, [], ◌∷◌, ◌++◌, Option, Some, None}
use Rattle.rx_value.specs.declared.value.Value.{Value}
use Rattle.rx_value.specs.declared.value.Value.TheVariants as v
use Rattle.rx_value.specs.declared.outcome.Outcome.{Outcome}
use Rattle.rx_value.specs.declared.outcome.Outcome.TheVariants as outcome
use Rattle.rx_value.specs.Numbers.{number_list}
use Rattle.rx_value.specs.Operators.{unary_result, binary_result}
use Rattle.app_tree.specs.declared.term.Read.{Read}
use Rattle.app_tree.specs.declared.term.Operator.{Operator}
use Rattle.app_tree.specs.declared.term.Operator.TheVariants as operator
use Rattle.app_tree.specs.Tree.{Tree, constant, group, get, variable, isolate, stop, require, fold, unary, binary, choice, call, Trees, no_trees, tree}
use Rattle.app_tree.specs.Evaluate.{Answers, leaves, Evaluation, Meaning, plain, then_by, wanted_bool, decided_by, operated, chosen_by, called, stop_outcome, required, over_each, over_list, at_site, evaluate, evaluate_all}
use Rattle.app_tree.specs.Cover.{reads_in, reads_in_all}
use Rattle.app_tree.specs.Trace.{Every, OfRead, EveryRead}
use Rattle.app_laws.proofs.Agreeing.{front, back}
use Rattle.app_laws.proofs.WhatIsAsked.{both_of}

module _ (a : Answers) (Q : Read → Type 0) where
  abbrev Asks : Evaluation → Type 0
  Asks e = EveryRead Q e.asked

  goes : (e : Evaluation) (x : Outcome) (next : Value → Evaluation) → Asks e → ((y : Value) → Asks (next y)) → Asks (then_by e x next)
  goes e (outcome.Val x) next p k = both_of (OfRead Q) e.asked (next x).asked p (k x)
  goes e (outcome.Fail t) next p k = p
  goes e outcome.Stop next p k = p
  goes e outcome.Cancel next p k = p
  goes e outcome.Running next p k = p

  ends : (e : Evaluation) (x : Outcome) (f : Value → Outcome) → Asks e → Asks (then_by e x (λ y. plain (f y)))
  ends e x f p = goes e x (λ y. plain (f y)) p (λ y. tt)

  decided : (d : Bool) (m : Meaning) (args : List Value) → Asks (m a args) → (x : Value) → Asks (decided_by d m a args x)
  decided true m args p (v.Bool true) = tt
  decided true m args p (v.Bool false) = ends (m a args) (m a args).outcome wanted_bool p
  decided false m args p (v.Bool false) = tt
  decided false m args p (v.Bool true) = ends (m a args) (m a args).outcome wanted_bool p
  decided true m args p v.Null = tt
  decided true m args p (v.Int z) = tt
  decided true m args p (v.Text t) = tt
  decided true m args p (v.Ints zs) = tt
  decided false m args p v.Null = tt
  decided false m args p (v.Int z) = tt
  decided false m args p (v.Text t) = tt
  decided false m args p (v.Ints zs) = tt

  operates : (op : Operator) (m : Meaning) (args : List Value) → Asks (m a args) → (x : Value) → Asks (operated op m a args x)
  operates operator.Or m args p x = decided true m args p x
  operates operator.And m args p x = decided false m args p x
  operates (operator.Strict op) m args p x = ends (m a args) (m a args).outcome (λ y. binary_result op x y) p

  chooses : (m n : Meaning) (args : List Value) → Asks (m a args) → Asks (n a args) → (x : Value) → Asks (chosen_by m n a args x)
  chooses m n args p q (v.Bool true) = p
  chooses m n args p q (v.Bool false) = q
  chooses m n args p q v.Null = tt
  chooses m n args p q (v.Int z) = tt
  chooses m n args p q (v.Text t) = tt
  chooses m n args p q (v.Ints zs) = tt

  each : (step : Value → ℤ → Evaluation) → ((x : Value) (z : ℤ) → Asks (step x z)) → (x : Value) (zs : List ℤ) → Asks (over_each step x zs)
  each step k x [] = tt
  each step k x (z ∷ zs) = goes (step x z) (step x z).outcome (λ y. over_each step y zs) (k x z) (λ y. each step k y zs)

  each_of : (step : Value → ℤ → Evaluation) → ((x : Value) (z : ℤ) → Asks (step x z)) → (x : Value) (o : Option (List ℤ)) → Asks (over_list step x o)
  each_of step k x (Some zs) = each step k x zs
  each_of step k x None = tt

  site : (n : _) (m : Meaning) (args : List Value) (x : Option Outcome) → Asks (m a args) → Asks (at_site n m a args x)
  site n m args (Some x) p = (tt, tt)
  site n m args None p = (tt, both_of (OfRead Q) (m a args).asked (leaves n (m a args).outcome ∷ []) p (tt, tt))

  mutual
    pub term_reads : (t : Tree) → Every Q (reads_in t) → (args : List Value) → Asks (evaluate t a args)
    term_reads (constant x) q args = tt
    term_reads (group t) q args = term_reads t q args
    term_reads (get r) q args = (q.0, tt)
    term_reads (variable k) q args = tt
    term_reads (isolate s t) q args = site s (evaluate t) args (a.site s) (term_reads t q args)
    term_reads (stop t) q args = ends (evaluate t a args) (evaluate t a args).outcome stop_outcome (term_reads t q args)
    term_reads (require t cancels) q args = ends (evaluate t a args) (evaluate t a args).outcome (required cancels) (term_reads t q args)
    term_reads (fold list start accumulator element body) q args =
        let two : Every Q (reads_in list ++ reads_in start) = front Q (reads_in list ++ reads_in start) (reads_in body) q in
        goes (evaluate list a args) (evaluate list a args).outcome _ (term_reads list (front Q (reads_in list) (reads_in start) two) args)
        (λ x. goes (evaluate start a args) (evaluate start a args).outcome _ (term_reads start (back Q (reads_in list) (reads_in start) two) args)
        (λ y. each_of (λ c z. evaluate body a (args ++ c ∷ v.Int z ∷ []))
        (λ c z. term_reads body (back Q (reads_in list ++ reads_in start) (reads_in body) q) (args ++ c ∷ v.Int z ∷ [])) y (number_list x)))
    term_reads (unary op t) q args = ends (evaluate t a args) (evaluate t a args).outcome (λ x. unary_result op x) (term_reads t q args)
    term_reads (binary op l r) q args =
        goes (evaluate l a args) (evaluate l a args).outcome (operated op (evaluate r) a args) (term_reads l (front Q (reads_in l) (reads_in r) q) args)
        (λ x. operates op (evaluate r) args (term_reads r (back Q (reads_in l) (reads_in r) q) args) x)
    term_reads (choice condition c e) q args =
        let two : Every Q (reads_in condition ++ reads_in c) = front Q (reads_in condition ++ reads_in c) (reads_in e) q in
        goes (evaluate condition a args) (evaluate condition a args).outcome (chosen_by (evaluate c) (evaluate e) a args)
        (term_reads condition (front Q (reads_in condition) (reads_in c) two) args)
        (λ x. chooses (evaluate c) (evaluate e) args (term_reads c (back Q (reads_in condition) (reads_in c) two) args)
        (term_reads e (back Q (reads_in condition ++ reads_in c) (reads_in e) q) args) x)
    term_reads (call f ts) q args = terms_read ts q args [] (λ xs. plain (called f xs)) (λ xs. tt)

    terms_read : (ts : Trees) → Every Q (reads_in_all ts) → (args done : List Value) (next : List Value → Evaluation) → ((xs : List Value) → Asks (next xs)) → Asks (evaluate_all ts a args done next)
    terms_read no_trees q args done next k = k done
    terms_read (tree t more) q args done next k =
        goes (evaluate t a args) (evaluate t a args).outcome _ (term_reads t (front Q (reads_in t) (reads_in_all more) q) args)
        (λ x. terms_read more (back Q (reads_in t) (reads_in_all more) q) args (done ++ x ∷ []) next k)
