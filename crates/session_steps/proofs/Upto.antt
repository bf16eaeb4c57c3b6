-- An evaluation over answers of which some are wanted goes, up to the first read that is, as one in which each is answered: so what
-- is wanted first is asked there too, and where nothing is wanted both are the same.
use Rattle.std.proofs.Common.{◌≡◌, ℕ, ℤ, Bool, true, false, List, [], ◌∷◌, ◌++◌, Option, Some, None, refl, sym, ap, ◌∙◌, subst}
use Rattle.std.specs.Prelude.{not, ◌&&◌, unwrap_or, if◌then◌else◌}
use Rattle.rx_value.specs.declared.value.Value.{Value}
use Rattle.rx_value.specs.declared.value.Value.TheVariants as v
use Rattle.rx_value.specs.declared.outcome.Outcome.{Outcome}
use Rattle.rx_value.specs.declared.outcome.Outcome.TheVariants as outcome
use Rattle.rx_value.specs.Functions.{is_null}
use Rattle.rx_value.specs.Numbers.{number_list}
use Rattle.rx_value.specs.Operators.{unary_result, binary_result}
use Rattle.app_tree.specs.declared.term.Read.{Read}
use Rattle.app_tree.specs.declared.term.Operator.{Operator}
use Rattle.app_tree.specs.declared.term.Operator.TheVariants as operator
use Rattle.app_tree.specs.declared.item.Flags.{Flags}
use Rattle.app_tree.specs.Tree.{Tree, constant, group, get, variable, isolate, stop, require, fold, unary, binary, choice, call, Trees, no_trees, tree, Node, input, value, task, reactive, event, text, plot, observe, on}
use Rattle.app_tree.specs.Trace.{OfRead, EveryRead}
use Rattle.app_tree.specs.Evaluate.{Answers, reads, leaves, Evaluation, Meaning, plain, read_of, after, then_by, then_with, wanted_bool, decided_by, operated, chosen_by, called, stop_outcome, required, over_each, over_list, at_site, evaluate, evaluate_all, site_count}
use Rattle.app_tree.specs.Fresh.{without_reads, rendered, cached, event_body, evaluate_node}
use Rattle.app_tree.specs.Wanted.{Answering, completed, wanted_by, first_wanted}
use Rattle.app_laws.proofs.Agreeing.{front, back}
use Rattle.app_laws.proofs.Asking.{left_site}
use Rattle.session_steps.proofs.Wanting.{first_wanted-append, first_wanted-front}

front_of : (P : Read → Type 0) (e : Evaluation) (o : Outcome) (next : Value → Evaluation) → EveryRead P (then_by e o next).asked → EveryRead P e.asked
front_of P e (outcome.Val x) next h = front (OfRead P) e.asked (next x).asked h
front_of P e (outcome.Fail t) next h = h
front_of P e outcome.Stop next h = h
front_of P e outcome.Cancel next h = h
front_of P e outcome.Running next h = h

front_wanted : (A : Answering) (e : Evaluation) (o : Outcome) (next : Value → Evaluation) (r : Read) → first_wanted A e.asked ≡ Some r → first_wanted A (then_by e o next).asked ≡ Some r
front_wanted A e (outcome.Val x) next r h = first_wanted-front A e.asked (next x).asked r h
front_wanted A e (outcome.Fail t) next r h = h
front_wanted A e outcome.Stop next r h = h
front_wanted A e outcome.Cancel next r h = h
front_wanted A e outcome.Running next r h = h

-- what is read has L, under which a read that A answers is answered so by b; Q is of all that the evaluation by b asks
module _ (A : Answering) (b : Answers) (L Q : Read → Type 0) (same : (s : ℕ) → A.site s ≡ b.site s) (tells : (r : Read) → L r → (o : Outcome) → A.read r ≡ Some o → b.read r ≡ o) where
  abbrev a : Answers
  a = completed A

  abbrev pub Upto : Option Read → Evaluation → Evaluation → Type 0
  Upto None by_a by_b = by_b ≡ by_a
  Upto (Some r) by_a by_b = EveryRead Q by_b.asked → Q r

  abbrev pub Fits : Evaluation → Evaluation → Type 0
  Fits by_a by_b = EveryRead L by_a.asked → Upto (first_wanted A by_a.asked) by_a by_b

  joins : (e f g : Evaluation) (w : Option Read) → Upto w f g → Upto w (after e f) (after e g)
  joins e f g None p = ap (after e) p
  joins e f g (Some r) p = λ q. p (back (OfRead Q) e.asked g.asked q)

  go_on : (e : Evaluation) (o : Outcome) (next_a next_b : Value → Evaluation) → first_wanted A e.asked ≡ None → ((x : Value) → Fits (next_a x) (next_b x)) → Fits (then_by e o next_a) (then_by e o next_b)
  go_on e (outcome.Val x) next_a next_b none k h =
      subst (λ w. Upto w (after e (next_a x)) (after e (next_b x))) (sym (first_wanted-append A e.asked (next_a x).asked none))
      (joins e (next_a x) (next_b x) (first_wanted A (next_a x).asked) (k x (back (OfRead L) e.asked (next_a x).asked h)))
  go_on e (outcome.Fail t) next_a next_b none k h = subst (λ w. Upto w e e) (sym none) refl
  go_on e outcome.Stop next_a next_b none k h = subst (λ w. Upto w e e) (sym none) refl
  go_on e outcome.Cancel next_a next_b none k h = subst (λ w. Upto w e e) (sym none) refl
  go_on e outcome.Running next_a next_b none k h = subst (λ w. Upto w e e) (sym none) refl

  then_fits : (by_a by_b : Evaluation) (next_a next_b : Value → Evaluation) → Fits by_a by_b → ((x : Value) → Fits (next_a x) (next_b x)) → Fits (then_with by_a next_a) (then_with by_b next_b)
  then_fits by_a by_b next_a next_b p k h = by (first_wanted A by_a.asked) refl
    where
      first : Upto (first_wanted A by_a.asked) by_a by_b
      first = p (front_of L by_a by_a.outcome next_a h)

      by : (w : Option Read) → first_wanted A by_a.asked ≡ w → Upto (first_wanted A (then_with by_a next_a).asked) (then_with by_a next_a) (then_with by_b next_b)
      by None q =
          let e : by_b ≡ by_a = subst (λ w. Upto w by_a by_b) q first in
          subst (λ z. Upto (first_wanted A (then_with by_a next_a).asked) (then_with by_a next_a) (then_with z next_b)) (sym e) (go_on by_a by_a.outcome next_a next_b q k h)
      by (Some r) q =
          let f : EveryRead Q by_b.asked → Q r = subst (λ w. Upto w by_a by_b) q first in
          subst (λ w. Upto w (then_with by_a next_a) (then_with by_b next_b)) (sym (front_wanted A by_a by_a.outcome next_a r q)) (λ all. f (front_of Q by_b by_b.outcome next_b all))

  plain_fits : (o : Outcome) → Fits (plain o) (plain o)
  plain_fits o h = refl

  ends : (by_a by_b : Evaluation) (f : Value → Outcome) → Fits by_a by_b → Fits (then_with by_a (λ x. plain (f x))) (then_with by_b (λ x. plain (f x)))
  ends by_a by_b f p = then_fits by_a by_b (λ x. plain (f x)) (λ x. plain (f x)) p (λ x. plain_fits (f x))

  read_fits : (r : Read) → Fits (read_of a r) (read_of b r)
  read_fits r h = by (A.read r) refl
    where
      by : (o : Option Outcome) → A.read r ≡ o → Upto (wanted_by (A.read r) r None) (read_of a r) (read_of b r)
      by (Some x) q =
          subst (λ w. Upto (wanted_by w r None) (read_of a r) (read_of b r)) (sym q)
          (ap (λ z. record { outcome = z; asked = reads r ∷ []; outside = r ∷ [] }) (tells r h.0 x q ∙ sym (ap (λ z. unwrap_or z outcome.Stop) q)))
      by None q = subst (λ w. Upto (wanted_by w r None) (read_of a r) (read_of b r)) (sym q) (λ all. all.0)

  abbrev FitsAll : Meaning → Type 0
  FitsAll m = (args : List Value) → Fits (m a args) (m b args)

  entered : (site : ℕ) (e f : Evaluation) → Fits e f → Fits (left_site site e) (left_site site f)
  entered site e f p h = by (first_wanted A e.asked) refl
    where
      first : Upto (first_wanted A e.asked) e f
      first = p (front (OfRead L) e.asked (leaves site e.outcome ∷ []) h.1)

      by : (w : Option Read) → first_wanted A e.asked ≡ w → Upto (first_wanted A (left_site site e).asked) (left_site site e) (left_site site f)
      by None q =
          let s : f ≡ e = subst (λ w. Upto w e f) q first in
          subst (λ w. Upto w (left_site site e) (left_site site f)) (sym (first_wanted-append A e.asked (leaves site e.outcome ∷ []) q)) (ap (left_site site) s)
      by (Some r) q =
          let s : EveryRead Q f.asked → Q r = subst (λ w. Upto w e f) q first in
          subst (λ w. Upto w (left_site site e) (left_site site f)) (sym (first_wanted-front A e.asked (leaves site e.outcome ∷ []) r q)) (λ all. s (front (OfRead Q) f.asked (leaves site f.outcome ∷ []) all.1))

  -- a site that is answered, or one that is evaluated
  site_fits : (site : ℕ) (m : Meaning) → FitsAll m → (args : List Value) (o p : Option Outcome) → o ≡ A.site site → p ≡ b.site site → Fits (at_site site m a args o) (at_site site m b args p)
  site_fits site m k args (Some x) p ea eb h = ap (at_site site m b args) (eb ∙ sym (same site) ∙ sym ea)
  site_fits site m k args None p ea eb h =
      let e : p ≡ None = eb ∙ sym (same site) ∙ sym ea in
      subst (λ z. Upto (first_wanted A (at_site site m a args None).asked) (at_site site m a args None) (at_site site m b args z)) (sym e) (entered site (m a args) (m b args) (k args) h)

  decided_fits : (d : Bool) (m : Meaning) → FitsAll m → (args : List Value) (x : Value) → Fits (decided_by d m a args x) (decided_by d m b args x)
  decided_fits true m k args (v.Bool true) h = refl
  decided_fits true m k args (v.Bool false) h = ends (m a args) (m b args) wanted_bool (k args) h
  decided_fits false m k args (v.Bool false) h = refl
  decided_fits false m k args (v.Bool true) h = ends (m a args) (m b args) wanted_bool (k args) h
  decided_fits true m k args v.Null h = refl
  decided_fits true m k args (v.Int z) h = refl
  decided_fits true m k args (v.Text t) h = refl
  decided_fits true m k args (v.Ints zs) h = refl
  decided_fits false m k args v.Null h = refl
  decided_fits false m k args (v.Int z) h = refl
  decided_fits false m k args (v.Text t) h = refl
  decided_fits false m k args (v.Ints zs) h = refl

  operated_fits : (op : Operator) (m : Meaning) → FitsAll m → (args : List Value) (x : Value) → Fits (operated op m a args x) (operated op m b args x)
  operated_fits operator.Or m k args x h = decided_fits true m k args x h
  operated_fits operator.And m k args x h = decided_fits false m k args x h
  operated_fits (operator.Strict op) m k args x h = ends (m a args) (m b args) (λ y. binary_result op x y) (k args) h

  chosen_fits : (m n : Meaning) → FitsAll m → FitsAll n → (args : List Value) (x : Value) → Fits (chosen_by m n a args x) (chosen_by m n b args x)
  chosen_fits m n k l args (v.Bool true) h = k args h
  chosen_fits m n k l args (v.Bool false) h = l args h
  chosen_fits m n k l args v.Null h = refl
  chosen_fits m n k l args (v.Int z) h = refl
  chosen_fits m n k l args (v.Text t) h = refl
  chosen_fits m n k l args (v.Ints zs) h = refl

  each_fits : (step_a step_b : Value → ℤ → Evaluation) → ((x : Value) (z : ℤ) → Fits (step_a x z) (step_b x z)) → (x : Value) (zs : List ℤ) → Fits (over_each step_a x zs) (over_each step_b x zs)
  each_fits step_a step_b k x [] h = refl
  each_fits step_a step_b k x (z ∷ zs) h =
      then_fits (step_a x z) (step_b x z) (λ y. over_each step_a y zs) (λ y. over_each step_b y zs) (k x z) (λ y. each_fits step_a step_b k y zs) h

  list_fits : (step_a step_b : Value → ℤ → Evaluation) → ((x : Value) (z : ℤ) → Fits (step_a x z) (step_b x z)) → (x : Value) (o : Option (List ℤ)) → Fits (over_list step_a x o) (over_list step_b x o)
  list_fits step_a step_b k x (Some zs) h = each_fits step_a step_b k x zs h
  list_fits step_a step_b k x None h = refl

  mutual
    pub term_fits : (t : Tree) → FitsAll (evaluate t)
    term_fits (constant x) args h = refl
    term_fits (group t) args h = term_fits t args h
    term_fits (get r) args h = read_fits r h
    term_fits (variable n) args h = refl
    term_fits (isolate site t) args h = site_fits site (evaluate t) (term_fits t) args (A.site site) (b.site site) refl refl h
    term_fits (stop t) args h = ends (evaluate t a args) (evaluate t b args) stop_outcome (term_fits t args) h
    term_fits (require t cancels) args h = ends (evaluate t a args) (evaluate t b args) (required cancels) (term_fits t args) h
    term_fits (fold list start accumulator element body) args h =
        then_fits (evaluate list a args) (evaluate list b args) _ _ (term_fits list args)
        (λ x. then_fits (evaluate start a args) (evaluate start b args) _ _ (term_fits start args)
        (λ y. list_fits (λ c z. evaluate body a (args ++ c ∷ v.Int z ∷ [])) (λ c z. evaluate body b (args ++ c ∷ v.Int z ∷ [])) (λ c z. term_fits body (args ++ c ∷ v.Int z ∷ [])) y (number_list x))) h
    term_fits (unary op t) args h = ends (evaluate t a args) (evaluate t b args) (λ x. unary_result op x) (term_fits t args) h
    term_fits (binary op l r) args h = then_fits (evaluate l a args) (evaluate l b args) (operated op (evaluate r) a args) (operated op (evaluate r) b args) (term_fits l args) (operated_fits op (evaluate r) (term_fits r) args) h
    term_fits (choice condition m n) args h =
        then_fits (evaluate condition a args) (evaluate condition b args) (chosen_by (evaluate m) (evaluate n) a args) (chosen_by (evaluate m) (evaluate n) b args) (term_fits condition args)
        (chosen_fits (evaluate m) (evaluate n) (term_fits m) (term_fits n) args) h
    term_fits (call f ts) args h = terms_fit ts args [] (λ xs. plain (called f xs)) (λ xs. plain (called f xs)) (λ xs. plain_fits (called f xs)) h

    pub terms_fit : (ts : Trees) (args done : List Value) (next_a next_b : List Value → Evaluation) → ((xs : List Value) → Fits (next_a xs) (next_b xs))
        → Fits (evaluate_all ts a args done next_a) (evaluate_all ts b args done next_b)
    terms_fit no_trees args done next_a next_b k h = k done h
    terms_fit (tree t more) args done next_a next_b k h =
        then_fits (evaluate t a args) (evaluate t b args) (λ x. evaluate_all more a args (done ++ x ∷ []) next_a) (λ x. evaluate_all more b args (done ++ x ∷ []) next_b) (term_fits t args)
        (λ x. terms_fit more args (done ++ x ∷ []) next_a next_b k) h

  -- ---- a reader
  unread_by : (e f : Evaluation) (w : Option Read) → Upto w e f → Upto w (without_reads e) (without_reads f)
  unread_by e f None p = ap without_reads p
  unread_by e f (Some r) p = p

  shown_by : (e f : Evaluation) (w : Option Read) → Upto w e f → Upto w (rendered e) (rendered f)
  shown_by e f None p = ap rendered p
  shown_by e f (Some r) p = p

  cached_fits : (keys : Trees) (body : Tree) → Fits (cached keys body a) (cached keys body b)
  cached_fits no_trees body = term_fits body []
  cached_fits (tree key more) body =
      terms_fit (tree key more) [] [] (λ xs. without_reads (evaluate body a [])) (λ xs. without_reads (evaluate body b []))
      (λ xs h. unread_by (evaluate body a []) (evaluate body b []) (first_wanted A (evaluate body a []).asked) (term_fits body [] h))

  event_fits : (flags : Flags) (e body : Tree) (x : Value) (d : Bool)
      → Fits (if d then plain outcome.Stop else at_site (site_count e) (evaluate body) a [] (A.site (site_count e))) (if d then plain outcome.Stop else at_site (site_count e) (evaluate body) b [] (b.site (site_count e)))
  event_fits flags e body x true h = refl
  event_fits flags e body x false h = site_fits (site_count e) (evaluate body) (term_fits body) [] (A.site (site_count e)) (b.site (site_count e)) refl refl h

  pub node_fits : (i : Option Node) → Fits (evaluate_node i a) (evaluate_node i b)
  node_fits None h = refl
  node_fits (Some (input name start)) h = refl
  node_fits (Some (value name start)) h = refl
  node_fits (Some (task name parameters body)) h = refl
  node_fits (Some (reactive name keys body)) h = cached_fits keys body h
  node_fits (Some (event name flags e body)) h =
      then_fits (evaluate e a []) (evaluate e b []) (event_body flags e body a) (event_body flags e body b) (term_fits e []) (λ x. event_fits flags e body x (is_null x && not flags.allow_null)) h
  node_fits (Some (text name shown)) h = cached_fits shown.keys shown.body h
  node_fits (Some (plot name shown)) h =
      shown_by (cached shown.keys shown.body a) (cached shown.keys shown.body b) (first_wanted A (cached shown.keys shown.body a).asked) (cached_fits shown.keys shown.body h)
  node_fits (Some (observe name priority block)) h = refl
  node_fits (Some (on name priority flags e block)) h = refl
