-- An evaluation that evaluates its sites, and again with what it recorded there: it comes to the same.
use Rattle.std.proofs.Common.{◌≡◌, ℕ, ℤ, Bool, true, false, List, [], ◌∷◌, ◌++◌, Option, Some, None, refl, sym, ap, ◌∙◌, subst}
use Rattle.std.specs.Prelude.{not, ◌&&◌, if◌then◌else◌}
use Rattle.rx_value.specs.declared.value.Value.{Value}
use Rattle.rx_value.specs.declared.value.Value.TheVariants as v
use Rattle.rx_value.specs.declared.outcome.Outcome.{Outcome}
use Rattle.rx_value.specs.declared.outcome.Outcome.TheVariants as outcome
use Rattle.rx_value.specs.Numbers.{number_list}
use Rattle.rx_value.specs.Operators.{unary_result, binary_result}
use Rattle.rx_value.specs.Functions.{is_null}
use Rattle.app_tree.specs.declared.term.Read.{Read}
use Rattle.app_tree.specs.declared.term.Operator.{Operator}
use Rattle.app_tree.specs.declared.term.Operator.TheVariants as operator
use Rattle.app_tree.specs.declared.item.Flags.{Flags}
use Rattle.app_tree.specs.Tree.{Tree, constant, group, get, variable, isolate, stop, require, fold, unary, binary, choice, call, Trees, no_trees, tree, Node, input, value, task, reactive, event, text, plot, observe, on}
use Rattle.app_tree.specs.Evaluate.{Answers, TraceEntry, given, enters, leaves, Evaluation, Meaning, plain, after, then_by, then_with, wanted_bool, decided_by, operated, chosen_by, called, stop_outcome, required, over_each, over_list, at_site, evaluate, evaluate_all, site_count}
use Rattle.app_tree.specs.Fresh.{without_reads, picture, rendered, cached, event_body, evaluate_node}
use Rattle.app_tree.specs.Trace.{Every, OfRead, EveryRead}
use Rattle.app_laws.specs.Recorded.{given_outcome, recorded}
use Rattle.app_laws.proofs.Agreeing.{front, back}
use Rattle.app_laws.proofs.WhatIsAsked.{both_of, recorded-append}

module _ (a b : Answers) (P : Read → Type 0) where
  abbrev pub IsAlikeRead : Read → Type 0
  IsAlikeRead r = a.read r ≡ b.read r

  abbrev pub IsKept : ℕ × Outcome → Type 0
  IsKept e = b.site e.0 ≡ Some e.1

  pub record Again (e f : Evaluation) : Type 0 where
    pub outcome : f.outcome ≡ e.outcome
    pub outside : f.outside ≡ e.outside
    pub within : EveryRead P e.asked → EveryRead P f.asked

  abbrev pub Repeats : Evaluation → Evaluation → Type 0
  Repeats e f = EveryRead IsAlikeRead e.asked → Every IsKept (recorded a.site e.asked) → Again e f

  same : (x : Outcome) → Repeats (plain x) (plain x)
  same x h k = record { outcome = refl; outside = refl; within = λ q. q }

  front_reads : (e : Evaluation) (x : Outcome) (next : Value → Evaluation) → EveryRead IsAlikeRead (then_by e x next).asked → EveryRead IsAlikeRead e.asked
  front_reads e (outcome.Val y) next h = front (OfRead IsAlikeRead) e.asked (next y).asked h
  front_reads e (outcome.Fail t) next h = h
  front_reads e outcome.Stop next h = h
  front_reads e outcome.Cancel next h = h
  front_reads e outcome.Running next h = h

  kept_parts : (xs ys : List TraceEntry) → Every IsKept (recorded a.site (xs ++ ys)) → Every IsKept (recorded a.site xs ++ recorded a.site ys)
  kept_parts xs ys h = subst (Every IsKept) (recorded-append a.site xs ys) h

  front_kept : (e : Evaluation) (x : Outcome) (next : Value → Evaluation) → Every IsKept (recorded a.site (then_by e x next).asked) → Every IsKept (recorded a.site e.asked)
  front_kept e (outcome.Val y) next h = front IsKept (recorded a.site e.asked) (recorded a.site (next y).asked) (kept_parts e.asked (next y).asked h)
  front_kept e (outcome.Fail t) next h = h
  front_kept e outcome.Stop next h = h
  front_kept e outcome.Cancel next h = h
  front_kept e outcome.Running next h = h

  joined : (e f : Evaluation) (next next' : Evaluation) → Again e f → Again next next' → Again (after e next) (after f next')
  joined e f next next' p q = record {
    outcome = q.outcome;
    outside = ap (λ z. z ++ next'.outside) p.outside ∙ ap (λ z. e.outside ++ z) q.outside;
    within = λ h. both_of (OfRead P) f.asked next'.asked (p.within (front (OfRead P) e.asked next.asked h)) (q.within (back (OfRead P) e.asked next.asked h));
  }

  goes : (e f : Evaluation) (x : Outcome) (next next' : Value → Evaluation) → Repeats e f → ((y : Value) → Repeats (next y) (next' y)) → Repeats (then_by e x next) (then_by f x next')
  goes e f (outcome.Val y) next next' p q h k =
      let kept : Every IsKept (recorded a.site e.asked ++ recorded a.site (next y).asked) = kept_parts e.asked (next y).asked k in
      joined e f (next y) (next' y) (p (front (OfRead IsAlikeRead) e.asked (next y).asked h) (front IsKept (recorded a.site e.asked) (recorded a.site (next y).asked) kept))
      (q y (back (OfRead IsAlikeRead) e.asked (next y).asked h) (back IsKept (recorded a.site e.asked) (recorded a.site (next y).asked) kept))
  goes e f (outcome.Fail t) next next' p q h k = p h k
  goes e f outcome.Stop next next' p q h k = p h k
  goes e f outcome.Cancel next next' p q h k = p h k
  goes e f outcome.Running next next' p q h k = p h k

  pub both : (e f : Evaluation) (next next' : Value → Evaluation) → Repeats e f → ((y : Value) → Repeats (next y) (next' y)) → Repeats (then_with e next) (then_with f next')
  both e f next next' p q h k =
      let one : Again e f = p (front_reads e e.outcome next h) (front_kept e e.outcome next k) in
      subst (λ x. Again (then_with e next) (then_by f x next')) (sym one.outcome) (goes e f e.outcome next next' p q h k)

  ends : (e f : Evaluation) (g : Value → Outcome) → Repeats e f → Repeats (then_with e (λ x. plain (g x))) (then_with f (λ x. plain (g x)))
  ends e f g p = both e f (λ x. plain (g x)) (λ x. plain (g x)) p (λ x. same (g x))

  decided : (d : Bool) (m : Meaning) (args : List Value) → Repeats (m a args) (m b args) → (x : Value) → Repeats (decided_by d m a args x) (decided_by d m b args x)
  decided true m args p (v.Bool true) = same _
  decided true m args p (v.Bool false) = ends (m a args) (m b args) wanted_bool p
  decided false m args p (v.Bool false) = same _
  decided false m args p (v.Bool true) = ends (m a args) (m b args) wanted_bool p
  decided true m args p v.Null = same _
  decided true m args p (v.Int z) = same _
  decided true m args p (v.Text t) = same _
  decided true m args p (v.Ints zs) = same _
  decided false m args p v.Null = same _
  decided false m args p (v.Int z) = same _
  decided false m args p (v.Text t) = same _
  decided false m args p (v.Ints zs) = same _

  operates : (op : Operator) (m : Meaning) (args : List Value) → Repeats (m a args) (m b args) → (x : Value) → Repeats (operated op m a args x) (operated op m b args x)
  operates operator.Or m args p x = decided true m args p x
  operates operator.And m args p x = decided false m args p x
  operates (operator.Strict op) m args p x = ends (m a args) (m b args) (λ y. binary_result op x y) p

  chooses : (m n : Meaning) (args : List Value) → Repeats (m a args) (m b args) → Repeats (n a args) (n b args) → (x : Value) → Repeats (chosen_by m n a args x) (chosen_by m n b args x)
  chooses m n args p q (v.Bool true) = p
  chooses m n args p q (v.Bool false) = q
  chooses m n args p q v.Null = same _
  chooses m n args p q (v.Int z) = same _
  chooses m n args p q (v.Text t) = same _
  chooses m n args p q (v.Ints zs) = same _

  each : (step step' : Value → ℤ → Evaluation) → ((x : Value) (z : ℤ) → Repeats (step x z) (step' x z)) → (x : Value) (zs : List ℤ) → Repeats (over_each step x zs) (over_each step' x zs)
  each step step' k x [] = same _
  each step step' k x (z ∷ zs) = both (step x z) (step' x z) (λ y. over_each step y zs) (λ y. over_each step' y zs) (k x z) (λ y. each step step' k y zs)

  each_of : (step step' : Value → ℤ → Evaluation) → ((x : Value) (z : ℤ) → Repeats (step x z) (step' x z)) → (x : Value) (o : Option (List ℤ)) → Repeats (over_list step x o) (over_list step' x o)
  each_of step step' k x (Some zs) = each step step' k x zs
  each_of step step' k x None = same _

  pub answered : (s : ℕ) (m : Meaning) (args : List Value) (x : Outcome) (y : Option Outcome) → y ≡ Some x → Again (record { outcome = x; asked = given s ∷ []; outside = [] }) (at_site s m b args y)
  answered s m args x y q = subst (λ z. Again (record { outcome = x; asked = given s ∷ []; outside = [] }) (at_site s m b args z)) (sym q) (record { outcome = refl; outside = refl; within = λ h. h })

  -- with what it was left with
  entered : (s : ℕ) (m : Meaning) (args : List Value) (e : Evaluation) (y : Option Outcome) → y ≡ Some e.outcome
      → Again (record { outcome = e.outcome; asked = enters s ∷ (e.asked ++ leaves s e.outcome ∷ []); outside = [] }) (at_site s m b args y)
  entered s m args e y q =
      subst (λ z. Again (record { outcome = e.outcome; asked = enters s ∷ (e.asked ++ leaves s e.outcome ∷ []); outside = [] }) (at_site s m b args z)) (sym q)
      (record { outcome = refl; outside = refl; within = λ h. (tt, tt) })

  pub site : (s : ℕ) (m : Meaning) (args : List Value) (x : Option Outcome) → a.site s ≡ x → Repeats (at_site s m a args x) (at_site s m b args (b.site s))
  site s m args (Some x) q h k = answered s m args x (b.site s) (k.0 ∙ ap (λ z. Some (given_outcome z)) q)
  site s m args None q h k =
      let e : Evaluation = m a args in
      let kept : Every IsKept (recorded a.site e.asked ++ (s, e.outcome) ∷ []) = kept_parts e.asked (leaves s e.outcome ∷ []) k in
      entered s m args e (b.site s) (back IsKept (recorded a.site e.asked) ((s, e.outcome) ∷ []) kept).0

  mutual
    pub term_repeats : (t : Tree) (args : List Value) → Repeats (evaluate t a args) (evaluate t b args)
    term_repeats (constant x) args = same _
    term_repeats (group t) args = term_repeats t args
    term_repeats (get r) args = λ h k. record { outcome = sym h.0; outside = refl; within = λ q. q }
    term_repeats (variable n) args = same _
    term_repeats (isolate s t) args = site s (evaluate t) args (a.site s) refl
    term_repeats (stop t) args = ends (evaluate t a args) (evaluate t b args) stop_outcome (term_repeats t args)
    term_repeats (require t cancels) args = ends (evaluate t a args) (evaluate t b args) (required cancels) (term_repeats t args)
    term_repeats (fold list start accumulator element body) args =
        both (evaluate list a args) (evaluate list b args) _ _ (term_repeats list args)
        (λ x. both (evaluate start a args) (evaluate start b args) _ _ (term_repeats start args)
        (λ y. each_of (λ c z. evaluate body a (args ++ c ∷ v.Int z ∷ [])) (λ c z. evaluate body b (args ++ c ∷ v.Int z ∷ [])) (λ c z. term_repeats body (args ++ c ∷ v.Int z ∷ [])) y (number_list x)))
    term_repeats (unary op t) args = ends (evaluate t a args) (evaluate t b args) (λ x. unary_result op x) (term_repeats t args)
    term_repeats (binary op l r) args =
        both (evaluate l a args) (evaluate l b args) (operated op (evaluate r) a args) (operated op (evaluate r) b args) (term_repeats l args) (λ x. operates op (evaluate r) args (term_repeats r args) x)
    term_repeats (choice condition m n) args =
        both (evaluate condition a args) (evaluate condition b args) (chosen_by (evaluate m) (evaluate n) a args) (chosen_by (evaluate m) (evaluate n) b args) (term_repeats condition args)
        (λ x. chooses (evaluate m) (evaluate n) args (term_repeats m args) (term_repeats n args) x)
    term_repeats (call f ts) args = terms_repeat ts args [] (λ xs. plain (called f xs)) (λ xs. plain (called f xs)) (λ xs. same (called f xs))

    terms_repeat : (ts : Trees) (args done : List Value) (next next' : List Value → Evaluation) → ((xs : List Value) → Repeats (next xs) (next' xs))
        → Repeats (evaluate_all ts a args done next) (evaluate_all ts b args done next')
    terms_repeat no_trees args done next next' k = k done
    terms_repeat (tree t more) args done next next' k =
        both (evaluate t a args) (evaluate t b args) (λ x. evaluate_all more a args (done ++ x ∷ []) next) (λ x. evaluate_all more b args (done ++ x ∷ []) next') (term_repeats t args)
        (λ x. terms_repeat more args (done ++ x ∷ []) next next' k)

  unread : (e f : Evaluation) → Repeats e f → Repeats (without_reads e) (without_reads f)
  unread e f p h k = let one : Again e f = p h k in record { outcome = one.outcome; outside = refl; within = one.within }

  shows : (e f : Evaluation) → Repeats e f → Repeats (rendered e) (rendered f)
  shows e f p h k = let one : Again e f = p h k in record { outcome = ap picture one.outcome; outside = one.outside; within = one.within }

  cached_repeats : (keys : Trees) (body : Tree) → Repeats (cached keys body a) (cached keys body b)
  cached_repeats no_trees body = term_repeats body []
  cached_repeats (tree key more) body =
      terms_repeat (tree key more) [] [] (λ xs. without_reads (evaluate body a [])) (λ xs. without_reads (evaluate body b [])) (λ xs. unread (evaluate body a []) (evaluate body b []) (term_repeats body []))

  event_repeats : (flags : Flags) (e body : Tree) (x : Value) (d : Bool)
      → Repeats (if d then plain outcome.Stop else at_site (site_count e) (evaluate body) a [] (a.site (site_count e))) (if d then plain outcome.Stop else at_site (site_count e) (evaluate body) b [] (b.site (site_count e)))
  event_repeats flags e body x true = same _
  event_repeats flags e body x false = site (site_count e) (evaluate body) [] (a.site (site_count e)) refl

  pub node_repeats : (i : Option Node) → Repeats (evaluate_node i a) (evaluate_node i b)
  node_repeats None = same _
  node_repeats (Some (input name start)) = same _
  node_repeats (Some (value name start)) = same _
  node_repeats (Some (task name parameters body)) = same _
  node_repeats (Some (reactive name keys body)) = cached_repeats keys body
  node_repeats (Some (event name flags e body)) =
      both (evaluate e a []) (evaluate e b []) (event_body flags e body a) (event_body flags e body b) (term_repeats e []) (λ x. event_repeats flags e body x (is_null x && not flags.allow_null))
  node_repeats (Some (text name shown)) = cached_repeats shown.keys shown.body
  node_repeats (Some (plot name shown)) = shows (cached shown.keys shown.body a) (cached shown.keys shown.body b) (cached_repeats shown.keys shown.body)
  node_repeats (Some (observe name priority block)) = same _
  node_repeats (Some (on name priority flags e block)) = same _
