-- A fact of each evaluation of a term that says nothing of the numbers of its sites, from the facts of its parts; and what is
-- noted of a term.
use Rattle.std.proofs.Common.{◌≡◌, ℕ, suc, ℤ, Bool, true, false, List, [], ◌∷◌, ◌++◌, Option, Some, None, refl, arith}
use Rattle.rx_value.specs.declared.value.Value.{Value}
use Rattle.rx_value.specs.declared.value.Value.TheVariants as v
use Rattle.rx_value.specs.declared.outcome.Outcome.{Outcome}
use Rattle.rx_value.specs.declared.outcome.Outcome.TheVariants as outcome
use Rattle.rx_value.specs.Numbers.{number_list}
use Rattle.rx_value.specs.Operators.{unary_result, binary_result}
use Rattle.app_tree.specs.declared.term.Read.{Read}
use Rattle.app_tree.specs.declared.term.Operator.{Operator}
use Rattle.app_tree.specs.declared.term.Operator.TheVariants as operator
use Rattle.app_tree.specs.Tree.{Tree, constant, group, get, variable, isolate, stop, require, fold, unary, binary, choice, call, Trees, no_trees, tree, Shape}
use Rattle.app_tree.specs.Evaluate.{Answers, Evaluation, Meaning, plain, then_by, wanted_bool, decided_by, operated, chosen_by, called, stop_outcome, required, over_each, over_list, at_site, evaluate, evaluate_all}
use Rattle.app_tree.specs.Trace.{Every, EveryRead}
use Rattle.app_tree.specs.Wanted.{Answering, completed, first_wanted}
use Rattle.app_laws.proofs.Asking.{IsOfParts}
use Rattle.app_laws.proofs.WhatIsAsked.{IsAnyRead, covers}
use Rattle.session_model.specs.Standing.{KeptSession}
use Rattle.session_steps.specs.Acting.{term_answering, term_attempt}
use Rattle.react_session.specs.inner.Trail.{Trail, first_trail, trail_after, AreNotes}
use Rattle.react_session.proofs.Trails.{Skims, skims, noted_all}

module _ (a : Answers) (P : Evaluation → Type 0) (of : IsOfParts a IsAnyRead (λ l h e. P e)) where
  nothing : (x : Outcome) → P (plain x)
  nothing x = of.nothing 0 0 x (omega arith)

  goes : (e : Evaluation) (x : Outcome) (next : Value → Evaluation) → P e → ((y : Value) → P (next y)) → P (then_by e x next)
  goes e (outcome.Val x) next p k = of.joined 0 0 0 e (next x) (omega arith) (omega arith) p (k x)
  goes e (outcome.Fail t) next p k = p
  goes e outcome.Stop next p k = p
  goes e outcome.Cancel next p k = p
  goes e outcome.Running next p k = p

  ends : (e : Evaluation) (x : Outcome) (f : Value → Outcome) → P e → P (then_by e x (λ y. plain (f y)))
  ends e x f p = goes e x (λ y. plain (f y)) p (λ y. nothing (f y))

  decided : (d : Bool) (m : Meaning) (args : List Value) → P (m a args) → (x : Value) → P (decided_by d m a args x)
  decided true m args p (v.Bool true) = nothing _
  decided true m args p (v.Bool false) = ends (m a args) (m a args).outcome wanted_bool p
  decided false m args p (v.Bool false) = nothing _
  decided false m args p (v.Bool true) = ends (m a args) (m a args).outcome wanted_bool p
  decided true m args p v.Null = nothing _
  decided true m args p (v.Int z) = nothing _
  decided true m args p (v.Text t) = nothing _
  decided true m args p (v.Ints zs) = nothing _
  decided false m args p v.Null = nothing _
  decided false m args p (v.Int z) = nothing _
  decided false m args p (v.Text t) = nothing _
  decided false m args p (v.Ints zs) = nothing _

  operates : (op : Operator) (m : Meaning) (args : List Value) → P (m a args) → (x : Value) → P (operated op m a args x)
  operates operator.Or m args p x = decided true m args p x
  operates operator.And m args p x = decided false m args p x
  operates (operator.Strict op) m args p x = ends (m a args) (m a args).outcome (λ y. binary_result op x y) p

  chooses : (m n : Meaning) (args : List Value) → P (m a args) → P (n a args) → (x : Value) → P (chosen_by m n a args x)
  chooses m n args p q (v.Bool true) = p
  chooses m n args p q (v.Bool false) = q
  chooses m n args p q v.Null = nothing _
  chooses m n args p q (v.Int z) = nothing _
  chooses m n args p q (v.Text t) = nothing _
  chooses m n args p q (v.Ints zs) = nothing _

  each : (step : Value → ℤ → Evaluation) → ((x : Value) (z : ℤ) → P (step x z)) → (x : Value) (zs : List ℤ) → P (over_each step x zs)
  each step k x [] = nothing _
  each step k x (z ∷ zs) = goes (step x z) (step x z).outcome (λ y. over_each step y zs) (k x z) (λ y. each step k y zs)

  each_of : (step : Value → ℤ → Evaluation) → ((x : Value) (z : ℤ) → P (step x z)) → (x : Value) (o : Option (List ℤ)) → P (over_list step x o)
  each_of step k x (Some zs) = each step k x zs
  each_of step k x None = nothing _

  site : (n : ℕ) (m : Meaning) (args : List Value) (x : Option Outcome) → a.site n ≡ x → P (m a args) → P (at_site n m a args x)
  site n m args (Some x) q p = of.answered n (suc n) x (omega arith) q
  site n m args None q p = of.entered n (suc n) (m a args) (omega arith) q p

  mutual
    pub term_is : (t : Tree) (args : List Value) → P (evaluate t a args)
    term_is (constant x) args = nothing _
    term_is (group t) args = term_is t args
    term_is (get r) args = of.reading 0 0 r (omega arith) tt
    term_is (variable k) args = nothing _
    term_is (isolate s t) args = site s (evaluate t) args (a.site s) refl (term_is t args)
    term_is (stop t) args = ends (evaluate t a args) (evaluate t a args).outcome stop_outcome (term_is t args)
    term_is (require t cancels) args = ends (evaluate t a args) (evaluate t a args).outcome (required cancels) (term_is t args)
    term_is (fold list start accumulator element body) args =
        goes (evaluate list a args) (evaluate list a args).outcome _ (term_is list args)
        (λ x. goes (evaluate start a args) (evaluate start a args).outcome _ (term_is start args)
        (λ y. each_of (λ c z. evaluate body a (args ++ c ∷ v.Int z ∷ [])) (λ c z. term_is body (args ++ c ∷ v.Int z ∷ [])) y (number_list x)))
    term_is (unary op t) args = ends (evaluate t a args) (evaluate t a args).outcome (λ x. unary_result op x) (term_is t args)
    term_is (binary op l r) args =
        goes (evaluate l a args) (evaluate l a args).outcome (operated op (evaluate r) a args) (term_is l args) (λ x. operates op (evaluate r) args (term_is r args) x)
    term_is (choice condition c e) args =
        goes (evaluate condition a args) (evaluate condition a args).outcome (chosen_by (evaluate c) (evaluate e) a args) (term_is condition args)
        (λ x. chooses (evaluate c) (evaluate e) args (term_is c args) (term_is e args) x)
    term_is (call f ts) args = terms_are ts args [] (λ xs. plain (called f xs)) (λ xs. nothing _)

    terms_are : (ts : Trees) (args done : List Value) (next : List Value → Evaluation) → ((xs : List Value) → P (next xs)) → P (evaluate_all ts a args done next)
    terms_are no_trees args done next k = k done
    terms_are (tree t more) args done next k =
        goes (evaluate t a args) (evaluate t a args).outcome _ (term_is t args) (λ x. terms_are more args (done ++ x ∷ []) next k)

-- what a term reads outside of sites is read
pub outside_read : (a : Answers) (P : Read → Type 0) (t : Tree) (args : List Value) → EveryRead P (evaluate t a args).asked → Every P (evaluate t a args).outside
outside_read a P t args = term_is a (λ e. EveryRead P e.asked → Every P e.outside) (covers a P) t args

-- the notes of a term that wants nothing
pub term_noted : (app : Shape) (s : KeptSession) (t : Tree) (new : Trail) → first_wanted (term_answering app s) (term_attempt app s t).asked ≡ None
    → new ≡ trail_after app (term_answering app s) (term_attempt app s t).asked first_trail → AreNotes app (term_answering app s) (term_attempt app s t) new.reached new.isolated
term_noted app s t new none is =
    let a : Answering = term_answering app s in
    noted_all app a (term_attempt app s t) new (term_is (completed a) (λ e. first_wanted a e.asked ≡ None → Skims app a e) (skims app a) t [] none) is
