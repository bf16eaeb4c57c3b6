-- What holds of all that is read outside of sites holds of all that is asked, where each site is answered and the keys of
-- a cached reader cover its body.
use Rattle.std.proofs.Common.{◌≡◌, ℕ, zero, suc, ◌+◌, Bool, true, false, List, [], ◌∷◌, ◌++◌, length, Option, Some, None, refl, sym, ap, subst, arith}
use Rattle.std.specs.Prelude.{⊤, not, ◌==◌, ◌&&◌, ◌||◌, if◌then◌else◌}
use Rattle.rx_value.specs.declared.value.Value.{Value}
use Rattle.rx_value.specs.declared.outcome.Outcome.{Outcome}
use Rattle.rx_value.specs.declared.outcome.Outcome.TheVariants as outcome
use Rattle.rx_value.specs.Functions.{is_null}
use Rattle.app_tree.specs.declared.term.Read.{Read}
use Rattle.app_tree.specs.declared.term.Read.TheVariants as read
use Rattle.app_tree.specs.Tree.{Tree, constant, group, get, variable, isolate, stop, require, fold, unary, binary, choice, call, Trees, no_trees, tree, Node, input, value, task, reactive, event, text, plot, observe, on, Shape}
use Rattle.app_tree.specs.Numbering.{readers, reader, is_expression}
use Rattle.app_tree.specs.Evaluate.{Answers, Evaluation, Meaning, plain, then_by, at_site, evaluate, evaluate_all, site_count, site_count_all}
use Rattle.app_tree.specs.Cover.{read_eq, reads_in, reads_in_all, is_key, is_covered_read, are_covered, is_covered_term, are_covered_terms, is_covered_node, covered_below, cached_node, is_covered}
use Rattle.app_tree.specs.Fresh.{without_reads, cached, event_body, evaluate_node}
use Rattle.app_tree.specs.Trace.{Every, OfRead, EveryRead}
use Rattle.app_laws.specs.Orderly.{IsOrderly, IsNumbered, AreNumbered, IsNumberedNode, reads_in_node}
use Rattle.app_laws.proofs.Agreeing.{front, back}
use Rattle.app_laws.proofs.Asking.{node_sites, term_has}
use Rattle.app_laws.proofs.WhatIsAsked.{both_of, term_asks, IsAnyRead, any_reads, IsGiven, IsWhole, is_whole}
use Rattle.app_laws.proofs.Covering.{and_left, and_right, eq_means, IsCoveredBody, covered_body}

pub read_same : (r q : Read) → read_eq r q ≡ true → r ≡ q
read_same (read.Input s) (read.Input t) h = ap read.Input (eq_means s t h)
read_same (read.Value s) (read.Value t) h = ap read.Value (eq_means s t h)
read_same (read.Expr s) (read.Expr t) h = ap read.Expr (eq_means s t h)
read_same (read.Status s) (read.Status t) h = ap read.Status (eq_means s t h)
read_same (read.Result s) (read.Result t) h = ap read.Result (eq_means s t h)
read_same (read.Width s) (read.Width t) h = ap read.Width (eq_means s t h)
read_same (read.Height s) (read.Height t) h = ap read.Height (eq_means s t h)
read_same _ _ h = cc

module _ (P : Read → Type 0) where
  -- of the keys that are reads themselves
  abbrev pub KeyRead : Tree → Type 0
  KeyRead (get r) = P r
  KeyRead _ = ⊤

  abbrev pub KeyReads : Trees → Type 0
  KeyReads no_trees = ⊤
  KeyReads (tree t more) = KeyRead t × KeyReads more

  by_either : (a b : Bool) (X : Type 0) → (a ≡ true → X) → (b ≡ true → X) → (a || b) ≡ true → X
  by_either true b X f g h = f refl
  by_either false b X f g h = g h

  pub key_has : (keys : Trees) (r : Read) → is_key keys r ≡ true → KeyReads keys → P r
  key_has no_trees r h p = cc
  key_has (tree (get k) more) r h p = by_either (read_eq k r) (is_key more r) (P r) (λ q. subst P (read_same k r q) p.0) (λ q. key_has more r q p.1) h
  key_has (tree (constant x) more) r h p = key_has more r h p.1
  key_has (tree (group t) more) r h p = key_has more r h p.1
  key_has (tree (variable n) more) r h p = key_has more r h p.1
  key_has (tree (isolate s t) more) r h p = key_has more r h p.1
  key_has (tree (stop t) more) r h p = key_has more r h p.1
  key_has (tree (require t c) more) r h p = key_has more r h p.1
  key_has (tree (fold a b c d e) more) r h p = key_has more r h p.1
  key_has (tree (unary op t) more) r h p = key_has more r h p.1
  key_has (tree (binary op a b) more) r h p = key_has more r h p.1
  key_has (tree (choice a b c) more) r h p = key_has more r h p.1
  key_has (tree (call f ts) more) r h p = key_has more r h p.1

  -- keys that have it, and expressions that inherit it from what they read, where they have no site
  module _ (app : Shape) (keys : Trees) (has : (r : Read) → is_key keys r ≡ true → P r)
      (inherits : (m : ℕ) (i : Node) → reader app m ≡ Some i → is_expression i ≡ true → node_sites i ≡ 0 → Every P (reads_in_node i) → P (read.Expr m)) where
    covered_read : (covered : ℕ → Bool) → ((m : ℕ) → covered m ≡ true → P (read.Expr m)) → (r : Read) → is_covered_read keys covered r ≡ true → P r
    covered_read covered k (read.Expr m) h = by_either (is_key keys (read.Expr m)) (covered m) (P (read.Expr m)) (has (read.Expr m)) (k m) h
    covered_read covered k (read.Input s) h = has (read.Input s) h
    covered_read covered k (read.Value s) h = has (read.Value s) h
    covered_read covered k (read.Status s) h = has (read.Status s) h
    covered_read covered k (read.Result s) h = has (read.Result s) h
    covered_read covered k (read.Width n) h = has (read.Width n) h
    covered_read covered k (read.Height n) h = has (read.Height n) h

    covered_reads : (covered : ℕ → Bool) → ((m : ℕ) → covered m ≡ true → P (read.Expr m)) → (rs : List Read) → are_covered keys covered rs ≡ true → Every P rs
    covered_reads covered k [] h = tt
    covered_reads covered k (r ∷ rs) h =
        (covered_read covered k r (and_left (is_covered_read keys covered r) (are_covered keys covered rs) h), covered_reads covered k rs (and_right (is_covered_read keys covered r) (are_covered keys covered rs) h))

    covered_at : (covered : ℕ → Bool) → ((m : ℕ) → covered m ≡ true → P (read.Expr m)) → (m : ℕ) (o : Option Node) → reader app m ≡ o → is_covered_node keys covered o ≡ true → P (read.Expr m)
    covered_at covered k m None is h = cc
    covered_at covered k m (Some (input name start)) is h = cc
    covered_at covered k m (Some (value name start)) is h = cc
    covered_at covered k m (Some (task name parameters body)) is h = cc
    covered_at covered k m (Some (event name flags e body)) is h = cc
    covered_at covered k m (Some (text name shown)) is h = cc
    covered_at covered k m (Some (plot name shown)) is h = cc
    covered_at covered k m (Some (observe name priority block)) is h = cc
    covered_at covered k m (Some (on name priority flags e block)) is h = cc
    covered_at covered k m (Some (reactive name its body)) is h =
        let of_keys : are_covered_terms keys covered its ≡ true = and_left (are_covered_terms keys covered its) (is_covered_term keys covered body) h in
        let of_body : is_covered_term keys covered body ≡ true = and_right (are_covered_terms keys covered its) (is_covered_term keys covered body) h in
        let none_before : site_count_all its ≡ 0 = eq_means (site_count_all its) 0 (and_left (site_count_all its == 0) (are_covered keys covered (reads_in_all its)) of_keys) in
        let none_inside : site_count body ≡ 0 = eq_means (site_count body) 0 (and_left (site_count body == 0) (are_covered keys covered (reads_in body)) of_body) in
        inherits m (reactive name its body) is refl (omega (none_before, none_inside, arith)) (both_of P (reads_in_all its) (reads_in body)
        (covered_reads covered k (reads_in_all its) (and_right (site_count_all its == 0) (are_covered keys covered (reads_in_all its)) of_keys))
        (covered_reads covered k (reads_in body) (and_right (site_count body == 0) (are_covered keys covered (reads_in body)) of_body)))

    covered_expression : (k m : ℕ) → covered_below app keys k m ≡ true → P (read.Expr m)
    covered_expression zero m h = cc
    covered_expression (suc k) m h = by (m == k) refl (covered_expression k) h
      where
        by : (b : Bool) → (m == k) ≡ b → ((m : ℕ) → covered_below app keys k m ≡ true → P (read.Expr m)) → (if b then is_covered_node keys (covered_below app keys k) (reader app k) else covered_below app keys k m) ≡ true → P (read.Expr m)
        by true q rest g = subst (λ z. P (read.Expr z)) (sym (eq_means m k q)) (covered_at (covered_below app keys k) rest k (reader app k) refl g)
        by false q rest g = rest m g

    pub body_reads : (body : Tree) → are_covered keys (covered_below app keys (length (readers app))) (reads_in body) ≡ true → Every P (reads_in body)
    body_reads body h = covered_reads (covered_below app keys (length (readers app))) (covered_expression (length (readers app))) (reads_in body) h

-- where each site is answered
module _ (a : Answers) (all : (s : ℕ) → IsGiven (a.site s)) (P : Read → Type 0) where
  term_whole : (t : Tree) (n : ℕ) → IsNumbered n t → (args : List Value) → Every P (evaluate t a args).outside → EveryRead P (evaluate t a args).asked
  term_whole t n d args = term_has a IsAnyRead (IsWhole a all P) (is_whole a all P) t n (n + site_count t) d (any_reads (reads_in t)) (omega arith) args

  key_read : (t : Tree) → Every P (evaluate t a []).outside → KeyRead P t
  key_read (get r) h = h.0
  key_read (constant x) h = tt
  key_read (group t) h = tt
  key_read (variable n) h = tt
  key_read (isolate s t) h = tt
  key_read (stop t) h = tt
  key_read (require t c) h = tt
  key_read (fold x b c d e) h = tt
  key_read (unary op t) h = tt
  key_read (binary op x b) h = tt
  key_read (choice x b c) h = tt
  key_read (call f ts) h = tt

  then_whole : (e : Evaluation) (x : Outcome) (next : Value → Evaluation) → (Every P e.outside → EveryRead P e.asked) → (Every P e.outside → (y : Value) → Every P (next y).outside → EveryRead P (next y).asked)
      → Every P (then_by e x next).outside → EveryRead P (then_by e x next).asked
  then_whole e (outcome.Val y) next p k h =
      let here : Every P e.outside = front P e.outside (next y).outside h in
      both_of (OfRead P) e.asked (next y).asked (p here) (k here y (back P e.outside (next y).outside h))
  then_whole e (outcome.Fail t) next p k h = p h
  then_whole e outcome.Stop next p k h = p h
  then_whole e outcome.Cancel next p k h = p h
  then_whole e outcome.Running next p k h = p h

  terms_whole : (ts : Trees) (n : ℕ) → AreNumbered n ts → (done : List Value) (next : List Value → Evaluation) → (KeyReads P ts → (xs : List Value) → Every P (next xs).outside → EveryRead P (next xs).asked)
      → Every P (evaluate_all ts a [] done next).outside → EveryRead P (evaluate_all ts a [] done next).asked
  terms_whole no_trees n d done next k h = k tt done h
  terms_whole (tree t more) n d done next k h =
      then_whole (evaluate t a []) (evaluate t a []).outcome (λ x. evaluate_all more a [] (done ++ x ∷ []) next) (term_whole t n d.0 [])
      (λ here x. terms_whole more (n + site_count t) d.1 (done ++ x ∷ []) next (λ rest. k (key_read t here, rest))) h

  module _ (app : Shape) (inherits : (m : ℕ) (i : Node) → reader app m ≡ Some i → is_expression i ≡ true → Every P (reads_in_node i) → P (read.Expr m)) where
    cached_whole : (keys : Trees) (body : Tree) → AreNumbered 0 keys → IsNumbered (site_count_all keys) body → ((key : Tree) (more : Trees) → keys ≡ tree key more → IsCoveredBody app (tree key more) body)
        → Every P (cached keys body a).outside → EveryRead P (cached keys body a).asked
    cached_whole no_trees body d b c h = term_whole body 0 b [] h
    cached_whole (tree key more) body d b c h =
        let covers : IsCoveredBody app (tree key more) body = c key more refl in
        terms_whole (tree key more) 0 d [] (λ xs. without_reads (evaluate body a []))
        (λ has xs g. term_asks a P body (site_count_all (tree key more)) (site_count_all (tree key more) + site_count body) b (body_reads P app (tree key more) (λ r q. key_has P (tree key more) r q has) (λ m i is e bare. inherits m i is e) body covers.reads) (omega arith) []) h

    answered : (s : ℕ) (m : Meaning) (x : Option Outcome) → IsGiven x → EveryRead P (at_site s m a [] x).asked
    answered s m None g = absurd g
    answered s m (Some y) g = (tt, tt)

    event_whole : (k : ℕ) (m : Meaning) (b : Bool) → EveryRead P (if b then plain outcome.Stop else at_site k m a [] (a.site k)).asked
    event_whole k m true = tt
    event_whole k m false = answered k m (a.site k) (all k)

    node_whole : (n : ℕ) (i : Node) → reader app n ≡ Some i → IsNumberedNode i → is_covered app n ≡ true → Every P (evaluate_node (Some i) a).outside → EveryRead P (evaluate_node (Some i) a).asked
    node_whole n (input name start) is d c h = tt
    node_whole n (value name start) is d c h = tt
    node_whole n (task name parameters body) is d c h = tt
    node_whole n (observe name priority block) is d c h = tt
    node_whole n (on name priority flags e block) is d c h = tt
    node_whole n (reactive name keys body) is d c h =
        cached_whole keys body d.0 d.1 (λ key more p. covered_body app n (reactive name keys body) key more body is (ap (λ ks. cached_node (Some (reactive name ks body))) p) c) h
    node_whole n (event name flags e body) is d c h =
        then_whole (evaluate e a []) (evaluate e a []).outcome (event_body flags e body a) (term_whole e 0 d.0 []) (λ here x g. event_whole (site_count e) (evaluate body) (is_null x && not flags.allow_null)) h
    node_whole n (text name shown) is d c h =
        cached_whole shown.keys shown.body d.0 d.1 (λ key more p. covered_body app n (text name shown) key more shown.body is (ap (λ ks. cached_node (Some (text name (record shown { keys = ks })))) p) c) h
    node_whole n (plot name shown) is d c h =
        cached_whole shown.keys shown.body d.0 d.1 (λ key more p. covered_body app n (plot name shown) key more shown.body is (ap (λ ks. cached_node (Some (plot name (record shown { keys = ks })))) p) c) h

    pub reader_whole : (orderly : IsOrderly app) (n : ℕ) (i : Node) → reader app n ≡ Some i → is_covered app n ≡ true → Every P (evaluate_node (reader app n) a).outside → EveryRead P (evaluate_node (reader app n) a).asked
    reader_whole orderly n i is c =
        subst (λ (o : Option Node). Every P (evaluate_node o a).outside → EveryRead P (evaluate_node o a).asked) (sym is) (node_whole n i is (orderly.sites n i is) c)
