-- An evaluation is what it is by the answers to what it asks.
use Rattle.std.proofs.Common.{◌≡◌, ℕ, ℤ, Bool, true, false, List, [], ◌∷◌, ◌++◌, Option, Some, None, refl, sym, ap, ◌∙◌}
use Rattle.rx_value.specs.declared.value.Value.{Value}
use Rattle.rx_value.specs.declared.value.Value.TheVariants as v
use Rattle.rx_value.specs.declared.outcome.Outcome.{Outcome}
use Rattle.rx_value.specs.declared.outcome.Outcome.TheVariants as outcome
use Rattle.rx_value.specs.Numbers.{number_list}
use Rattle.rx_value.specs.Operators.{unary_result, binary_result}
use Rattle.app_tree.specs.declared.term.Operator.{Operator}
use Rattle.app_tree.specs.declared.term.Operator.TheVariants as operator
use Rattle.app_tree.specs.Tree.{Tree, constant, group, get, variable, isolate, stop, require, fold, unary, binary, choice, call, Trees, no_trees, tree}
use Rattle.app_tree.specs.Evaluate.{Answers, TraceEntry, reads, enters, leaves, Evaluation, Meaning, plain, then_by, then_with, wanted_bool, decided_by, operated, chosen_by, called, stop_outcome, required, over_each, over_list, at_site, evaluate, evaluate_all}
use Rattle.app_tree.specs.Trace.{Every}
use Rattle.app_laws.specs.AskedLaws.{IsAnsweredAlike, EqualAnswersGiveEqual}

pub front : {A : Type 0} (P : A → Type 0) (xs ys : List A) → Every P (xs ++ ys) → Every P xs
front P [] ys h = tt
front P (x ∷ xs) ys h = (h.0, front P xs ys h.1)

pub back : {A : Type 0} (P : A → Type 0) (xs ys : List A) → Every P (xs ++ ys) → Every P ys
back P [] ys h = h
back P (x ∷ xs) ys h = back P xs ys h.1

module _ (a b : Answers) where
  abbrev pub Alike : List TraceEntry → Type 0
  Alike = Every (IsAnsweredAlike a b)

  -- an evaluation by b is that by a, where all that the latter asks is answered alike
  abbrev pub Agree : Evaluation → Evaluation → Type 0
  Agree by_a by_b = Alike by_a.asked → by_b ≡ by_a

  front_of : (e : Evaluation) (o : Outcome) (next : Value → Evaluation) → Alike (then_by e o next).asked → Alike e.asked
  front_of e (outcome.Val x) next h = front (IsAnsweredAlike a b) e.asked (next x).asked h
  front_of e (outcome.Fail t) next h = h
  front_of e outcome.Stop next h = h
  front_of e outcome.Cancel next h = h
  front_of e outcome.Running next h = h

  go_on : (e : Evaluation) (o : Outcome) (next_a next_b : Value → Evaluation) → ((x : Value) → Agree (next_a x) (next_b x)) → Agree (then_by e o next_a) (then_by e o next_b)
  go_on e (outcome.Val x) next_a next_b k h =
      ap (λ n. record { outcome = n.outcome; asked = e.asked ++ n.asked; outside = e.outside ++ n.outside }) (k x (back (IsAnsweredAlike a b) e.asked (next_a x).asked h))
  go_on e (outcome.Fail t) next_a next_b k h = refl
  go_on e outcome.Stop next_a next_b k h = refl
  go_on e outcome.Cancel next_a next_b k h = refl
  go_on e outcome.Running next_a next_b k h = refl

  -- one evaluation and then another
  pub then_agree : (by_a by_b : Evaluation) (next_a next_b : Value → Evaluation) → Agree by_a by_b → ((x : Value) → Agree (next_a x) (next_b x)) → Agree (then_with by_a next_a) (then_with by_b next_b)
  then_agree by_a by_b next_a next_b same k h =
      ap (λ e. then_with e next_b) (same (front_of by_a by_a.outcome next_a h)) ∙ go_on by_a by_a.outcome next_a next_b k h

  same_next : (next : Value → Evaluation) (x : Value) → Agree (next x) (next x)
  same_next next x h = refl

  -- a meaning that agrees for all values of the variables
  abbrev pub Agrees : Meaning → Type 0
  Agrees m = (args : List Value) → Agree (m a args) (m b args)

  decided_agree : (d : Bool) (m : Meaning) → Agrees m → (args : List Value) (x : Value) → Agree (decided_by d m a args x) (decided_by d m b args x)
  decided_agree true m k args (v.Bool true) h = refl
  decided_agree true m k args (v.Bool false) h = then_agree (m a args) (m b args) (λ y. plain (wanted_bool y)) (λ y. plain (wanted_bool y)) (k args) (same_next (λ y. plain (wanted_bool y))) h
  decided_agree false m k args (v.Bool false) h = refl
  decided_agree false m k args (v.Bool true) h = then_agree (m a args) (m b args) (λ y. plain (wanted_bool y)) (λ y. plain (wanted_bool y)) (k args) (same_next (λ y. plain (wanted_bool y))) h
  decided_agree true m k args v.Null h = refl
  decided_agree true m k args (v.Int z) h = refl
  decided_agree true m k args (v.Text t) h = refl
  decided_agree true m k args (v.Ints zs) h = refl
  decided_agree false m k args v.Null h = refl
  decided_agree false m k args (v.Int z) h = refl
  decided_agree false m k args (v.Text t) h = refl
  decided_agree false m k args (v.Ints zs) h = refl

  operated_agree : (op : Operator) (m : Meaning) → Agrees m → (args : List Value) (x : Value) → Agree (operated op m a args x) (operated op m b args x)
  operated_agree operator.Or m k args x h = decided_agree true m k args x h
  operated_agree operator.And m k args x h = decided_agree false m k args x h
  operated_agree (operator.Strict op) m k args x h =
      then_agree (m a args) (m b args) (λ y. plain (binary_result op x y)) (λ y. plain (binary_result op x y)) (k args) (same_next (λ y. plain (binary_result op x y))) h

  chosen_agree : (m n : Meaning) → Agrees m → Agrees n → (args : List Value) (x : Value) → Agree (chosen_by m n a args x) (chosen_by m n b args x)
  chosen_agree m n k l args (v.Bool true) h = k args h
  chosen_agree m n k l args (v.Bool false) h = l args h
  chosen_agree m n k l args v.Null h = refl
  chosen_agree m n k l args (v.Int z) h = refl
  chosen_agree m n k l args (v.Text t) h = refl
  chosen_agree m n k l args (v.Ints zs) h = refl

  each_agree : (step_a step_b : Value → ℤ → Evaluation) → ((x : Value) (z : ℤ) → Agree (step_a x z) (step_b x z)) → (x : Value) (zs : List ℤ) → Agree (over_each step_a x zs) (over_each step_b x zs)
  each_agree step_a step_b k x [] h = refl
  each_agree step_a step_b k x (z ∷ zs) h =
      then_agree (step_a x z) (step_b x z) (λ y. over_each step_a y zs) (λ y. over_each step_b y zs) (k x z) (λ y. each_agree step_a step_b k y zs) h

  list_agree : (step_a step_b : Value → ℤ → Evaluation) → ((x : Value) (z : ℤ) → Agree (step_a x z) (step_b x z)) → (x : Value) (o : Option (List ℤ)) → Agree (over_list step_a x o) (over_list step_b x o)
  list_agree step_a step_b k x (Some zs) h = each_agree step_a step_b k x zs h
  list_agree step_a step_b k x None h = refl

  -- a site that is answered, or one that is evaluated
  pub site_agree : (site : ℕ) (m : Meaning) → Agrees m → (args : List Value) (o p : Option Outcome) → o ≡ a.site site → p ≡ b.site site → Agree (at_site site m a args o) (at_site site m b args p)
  site_agree site m k args (Some x) p ea eb h = ap (at_site site m b args) (eb ∙ sym h.0 ∙ sym ea)
  site_agree site m k args None p ea eb h =
      ap (at_site site m b args) (eb ∙ sym h.0 ∙ sym ea)
      ∙ ap (λ e. record { outcome = e.outcome; asked = enters site ∷ (e.asked ++ leaves site e.outcome ∷ []); outside = [] })
      (k args (front (IsAnsweredAlike a b) (m a args).asked (leaves site (m a args).outcome ∷ []) h.1))

  mutual
    pub term_agrees : (t : Tree) → Agrees (evaluate t)
    term_agrees (constant x) args h = refl
    term_agrees (group t) args h = term_agrees t args h
    term_agrees (get r) args h = ap (λ o. record { outcome = o; asked = reads r ∷ []; outside = r ∷ [] }) (sym h.0)
    term_agrees (variable n) args h = refl
    term_agrees (isolate site t) args h = site_agree site (evaluate t) (term_agrees t) args (a.site site) (b.site site) refl refl h
    term_agrees (stop t) args h = then_agree (evaluate t a args) (evaluate t b args) (λ x. plain (stop_outcome x)) (λ x. plain (stop_outcome x)) (term_agrees t args) (same_next (λ x. plain (stop_outcome x))) h
    term_agrees (require t cancels) args h =
        then_agree (evaluate t a args) (evaluate t b args) (λ x. plain (required cancels x)) (λ x. plain (required cancels x)) (term_agrees t args) (same_next (λ x. plain (required cancels x))) h
    term_agrees (fold list start accumulator element body) args h =
        then_agree (evaluate list a args) (evaluate list b args) _ _ (term_agrees list args)
        (λ x. then_agree (evaluate start a args) (evaluate start b args) _ _ (term_agrees start args)
        (λ y. list_agree (λ c z. evaluate body a (args ++ c ∷ v.Int z ∷ [])) (λ c z. evaluate body b (args ++ c ∷ v.Int z ∷ [])) (λ c z. term_agrees body (args ++ c ∷ v.Int z ∷ [])) y (number_list x))) h
    term_agrees (unary op t) args h = then_agree (evaluate t a args) (evaluate t b args) (λ x. plain (unary_result op x)) (λ x. plain (unary_result op x)) (term_agrees t args) (same_next (λ x. plain (unary_result op x))) h
    term_agrees (binary op l r) args h = then_agree (evaluate l a args) (evaluate l b args) (operated op (evaluate r) a args) (operated op (evaluate r) b args) (term_agrees l args) (operated_agree op (evaluate r) (term_agrees r) args) h
    term_agrees (choice condition m n) args h =
        then_agree (evaluate condition a args) (evaluate condition b args) (chosen_by (evaluate m) (evaluate n) a args) (chosen_by (evaluate m) (evaluate n) b args) (term_agrees condition args)
        (chosen_agree (evaluate m) (evaluate n) (term_agrees m) (term_agrees n) args) h
    term_agrees (call f ts) args h = terms_agree ts args [] (λ xs. plain (called f xs)) (λ xs. plain (called f xs)) (λ xs h. refl) h

    pub terms_agree : (ts : Trees) (args done : List Value) (next_a next_b : List Value → Evaluation) → ((xs : List Value) → Agree (next_a xs) (next_b xs))
        → Agree (evaluate_all ts a args done next_a) (evaluate_all ts b args done next_b)
    terms_agree no_trees args done next_a next_b k h = k done h
    terms_agree (tree t more) args done next_a next_b k h =
        then_agree (evaluate t a args) (evaluate t b args) (λ x. evaluate_all more a args (done ++ x ∷ []) next_a) (λ x. evaluate_all more b args (done ++ x ∷ []) next_b) (term_agrees t args)
        (λ x. terms_agree more args (done ++ x ∷ []) next_a next_b k) h

pub equal_answers_give_equal : EqualAnswersGiveEqual
equal_answers_give_equal t a b args h = term_agrees a b t args h
