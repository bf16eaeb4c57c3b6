-- What the values of a cached reader's keys say of its body, whatever answers the sites.
use Rattle.std.proofs.Common.{◌≡◌, inl, inr, ◌≤◌, ◌<◌, ℕ, zero, suc, Bool, true, false, List, [], ◌∷◌, ◌++◌, length, Option, Some, None, Ok, refl, sym, ap, ◌∙◌, subst, arith, append_assoc, append-nil}
use Rattle.std.specs.Prelude.{⊤, ◌||◌, slice_get, unwrap_or, if◌then◌else◌}
use Rattle.std.proofs.lemmas.Bool.Decides.{eqb_tells}
use Rattle.rx_value.specs.declared.value.Value.{Value}
use Rattle.rx_value.specs.declared.outcome.Outcome.{Outcome}
use Rattle.rx_value.specs.declared.outcome.Outcome.TheVariants.{Val, Fail, Stop, Cancel, Running}
use Rattle.app_tree.specs.declared.term.Read.{Read}
use Rattle.app_tree.specs.declared.term.Read.TheVariants as read
use Rattle.app_tree.specs.Tree.{Tree, constant, group, get, variable, isolate, stop, require, fold, unary, binary, choice, call, Trees, no_trees, tree, Node, Shape}
use Rattle.app_tree.specs.Numbering.{readers, reader, is_expression}
use Rattle.app_tree.specs.Current.{CurrentValues}
use Rattle.app_tree.specs.Evaluate.{Answers, Evaluation, then_by, evaluate, evaluate_all, outcome_of, site_count}
use Rattle.app_tree.specs.Fresh.{Sites, Known, answer_to, without_reads, evaluate_node, known_expressions}
use Rattle.app_tree.specs.Keys.{after_key, keys_from, keys_result}
use Rattle.app_tree.specs.Cover.{read_eq, reads_in, is_key, is_covered_by, key_value, by_outcomes, by_key, keyed_answers, keyed_below, keyed_by}
use Rattle.app_tree.specs.Trace.{Every}
use Rattle.app_laws.specs.AskedLaws.{IsAnsweredAlike}
use Rattle.app_laws.specs.Orderly.{ReadsBelow, IsOrderly, IsNumberedNode, reads_in_node}
use Rattle.app_laws.specs.KeyedLaws.{answers_at, unless_failed, CoveredBodyIsKeyed, EqualKeysGiveEqual, KeysComeFirst}
use Rattle.app_laws.proofs.Agreeing.{term_agrees}
use Rattle.app_laws.proofs.Asking.{IsOfParts, node_sites, bare_numbered, term_has, node_has}
use Rattle.app_laws.proofs.NodesAgree.{node_agrees}
use Rattle.app_laws.proofs.WhatIsAsked.{both_of, every_zip}
use Rattle.app_laws.proofs.KnownLists.{length-more, get-last, get-before, get_in, low_reads, known_fixed}
use Rattle.app_laws.proofs.Covering.{IsCoveredBody, covered_by}
use Rattle.app_laws.proofs.CoveredReads.{read_same, body_reads}
use Rattle.app_laws.proofs.WellOrdered.{well_formed_is_orderly}

-- ---- without a site, equal answers to the reads of a text give an equal evaluation

module _ (a b : Answers) where
  abbrev IsReadAlike : Read → Type 0
  IsReadAlike r = a.read r ≡ b.read r

  -- where no number is left for a site
  abbrev AsksAlike : ℕ → ℕ → Evaluation → Type 0
  AsksAlike l h e = h ≤ l → Every (IsAnsweredAlike a b) e.asked

  asks_alike : IsOfParts a IsReadAlike AsksAlike
  asks_alike = record {
    nothing = λ l h x i w. tt;
    reading = λ l h r i q w. (q, tt);
    joined = λ l m h e next i j p k w. both_of (IsAnsweredAlike a b) e.asked next.asked (p (omega (i, j, w, arith))) (k (omega (i, j, w, arith)));
    wider = λ l h k i e x y p w. p (omega (x, y, w, arith));
    answered = λ n h x i q w. absurd (omega (i, w, arith));
    entered = λ n h e i q p w. absurd (omega (i, w, arith));
  }

  bare_term : (t : Tree) → site_count t ≡ 0 → Every IsReadAlike (reads_in t) → evaluate t b [] ≡ evaluate t a []
  bare_term t bare alike = term_agrees a b t [] (term_has a IsReadAlike AsksAlike asks_alike t 0 0 (bare_numbered t 0 bare) alike (omega (bare, arith)) [] (omega arith))

  pub bare_node : (i : Node) → IsNumberedNode i → node_sites i ≡ 0 → Every IsReadAlike (reads_in_node i) → evaluate_node (Some i) b ≡ evaluate_node (Some i) a
  bare_node i numbered bare alike =
      node_agrees a b (Some i) (node_has a IsReadAlike AsksAlike asks_alike (λ l h e p. p) (λ l h e p. p) i 0 numbered alike (omega (bare, arith)) (omega arith))

-- ---- keys

module _ (a : Answers) where
  -- these are the values of the keys
  abbrev AreValues : Trees → List Value → Type 0
  AreValues no_trees [] = ⊤
  AreValues (tree t more) (x ∷ xs) = (outcome_of t a [] ≡ Val x) × AreValues more xs
  AreValues _ _ = ⊥

  -- all of these are the values that came before, and then those of the keys
  record HaveValues (keys : Trees) (done all : List Value) : Type 0 where
    values : List Value
    are : AreValues keys values
    all_are : done ++ values ≡ all

  have_values : (keys : Trees) (done all : List Value) → keys_from keys a done ≡ Ok all → HaveValues keys done all
  have_values no_trees done all h = record { values = []; are = tt; all_are = append-nil done ∙ cc }
  have_values (tree t more) done all h = by (outcome_of t a []) refl (λ x. have_values more (done ++ x ∷ []) all) h
    where
      by : (o : Outcome) → outcome_of t a [] ≡ o → ((x : Value) → keys_from more a (done ++ x ∷ []) ≡ Ok all → HaveValues more (done ++ x ∷ []) all) → after_key done o (keys_from more a) ≡ Ok all → HaveValues (tree t more) done all
      by (Val x) e rest g = let r = rest x g in record { values = x ∷ r.values; are = (e, r.are); all_are = sym (append_assoc done (x ∷ []) r.values) ∙ r.all_are }
      by (Fail t) e rest g = cc
      by Stop e rest g = cc
      by Cancel e rest g = cc
      by Running e rest g = cc

  values_are : (keys : Trees) (xs : List Value) → keys_result keys a ≡ Ok xs → AreValues keys xs
  values_are keys xs h = let r = have_values keys [] xs h in subst (AreValues keys) r.all_are r.are

  module _ (outcomes : List Outcome) (r : Read) where
    -- a read that is no key is answered by these outcomes
    abbrev Otherwise : Bool → Type 0
    Otherwise b = b ≡ false → a.read r ≡ by_outcomes outcomes r

    -- the answer to a read is the value of the first key that is this read
    by_keys : (keys : Trees) (xs : List Value) → AreValues keys xs → Otherwise (is_key keys r) → a.read r ≡ by_key (key_value keys xs r) outcomes r
    by_keys no_trees [] h k = k refl
    by_keys no_trees (x ∷ xs) h k = absurd h
    by_keys (tree t more) [] h k = absurd h
    by_keys (tree (get q) more) (x ∷ xs) h k = by (read_eq q r) refl (by_keys more xs h.1) k
      where
        by : (b : Bool) → read_eq q r ≡ b → (Otherwise (is_key more r) → a.read r ≡ by_key (key_value more xs r) outcomes r) → Otherwise (b || is_key more r) → a.read r ≡ by_key (if b then Some x else key_value more xs r) outcomes r
        by true e rest g = sym (ap a.read (read_same q r e)) ∙ h.0
        by false e rest g = rest g
    by_keys (tree (constant y) more) (x ∷ xs) h k = by_keys more xs h.1 k
    by_keys (tree (group t) more) (x ∷ xs) h k = by_keys more xs h.1 k
    by_keys (tree (variable n) more) (x ∷ xs) h k = by_keys more xs h.1 k
    by_keys (tree (isolate s t) more) (x ∷ xs) h k = by_keys more xs h.1 k
    by_keys (tree (stop t) more) (x ∷ xs) h k = by_keys more xs h.1 k
    by_keys (tree (require t c) more) (x ∷ xs) h k = by_keys more xs h.1 k
    by_keys (tree (fold y b c d e) more) (x ∷ xs) h k = by_keys more xs h.1 k
    by_keys (tree (unary op t) more) (x ∷ xs) h k = by_keys more xs h.1 k
    by_keys (tree (binary op y b) more) (x ∷ xs) h k = by_keys more xs h.1 k
    by_keys (tree (choice y b c) more) (x ∷ xs) h k = by_keys more xs h.1 k
    by_keys (tree (call f ts) more) (x ∷ xs) h k = by_keys more xs h.1 k

  -- the keys, and then the body
  after_keys : (keys : Trees) (body : Tree) (done : List Value) → (evaluate_all keys a [] done (λ xs. without_reads (evaluate body a []))).outcome ≡ unless_failed (keys_from keys a done) (outcome_of body a [])
  after_keys no_trees body done = refl
  after_keys (tree t more) body done = by (outcome_of t a []) refl (λ x. after_keys more body (done ++ x ∷ []))
    where
      by : (o : Outcome) → outcome_of t a [] ≡ o → ((x : Value) → (evaluate_all more a [] (done ++ x ∷ []) (λ xs. without_reads (evaluate body a []))).outcome ≡ unless_failed (keys_from more a (done ++ x ∷ [])) (outcome_of body a []))
          → (then_by (evaluate t a []) o (λ x. evaluate_all more a [] (done ++ x ∷ []) (λ xs. without_reads (evaluate body a [])))).outcome ≡ unless_failed (after_key done o (keys_from more a)) (outcome_of body a [])
      by (Val x) e rest = rest x
      by (Fail t) e rest = e
      by Stop e rest = e
      by Cancel e rest = e
      by Running e rest = e

pub keys_come_first : KeysComeFirst
keys_come_first no_trees body a = refl
keys_come_first (tree key more) body a = after_keys a (tree key more) body []

-- ---- what the expressions come to by the keys

module _ (app : Shape) (orderly : IsOrderly app) (values : CurrentValues) (sites : Sites) (n : ℕ) (keys : Trees) (xs : List Value) (are : AreValues (answers_at app values sites n) keys xs) where
  abbrev known : List Known
  known = known_expressions app values sites

  abbrev count : ℕ
  count = length (readers app)

  abbrev keyed : ℕ → Answers
  keyed k = keyed_answers keys xs (keyed_below app keys xs k)

  abbrev keyed_at : ℕ → ℕ → Outcome
  keyed_at k m = unwrap_or (slice_get (keyed_below app keys xs k) m) Stop

  abbrev keyed_entry : ℕ → Outcome
  keyed_entry m = (evaluate_node (reader app m) (keyed m)).outcome

  keyed_size : (k : ℕ) → length (keyed_below app keys xs k) ≡ k
  keyed_size zero = refl
  keyed_size (suc k) = length-more (keyed_below app keys xs k) (keyed_entry k) ∙ ap suc (keyed_size k)

  -- a bound that is high enough makes no difference
  keyed_is : (k m : ℕ) → m < k → keyed_at k m ≡ keyed_entry m
  keyed_is zero m h = absurd (omega (h, arith))
  keyed_is (suc k) m h = elim (eqb_tells m k) [
    | inl p ↦ subst (λ z. keyed_at (suc k) z ≡ keyed_entry z) (sym p.1)
        (subst (λ z. keyed_at (suc k) z ≡ keyed_entry k) (keyed_size k) (ap (λ o. unwrap_or o Stop) (get-last (keyed_below app keys xs k) (keyed_entry k))))
    | inr p ↦ let differ = p.1 in let below : m < k = omega (h, differ, arith) in let size = keyed_size k in
        ap (λ o. unwrap_or o Stop) (get-before (keyed_below app keys xs k) (keyed_entry k) m (omega (below, size, arith))) ∙ keyed_is k m below
  ]

  -- the keys answer it as it is answered
  abbrev IsKeyed : Read → Type 0
  IsKeyed r = answer_to app values known r ≡ (keyed count).read r

  -- to what an expression reads, those before it suffice
  low_same : (m : ℕ) → m < count → (o : Option Value) (r : Read) → ReadsBelow app m r → by_key o (keyed_below app keys xs count) r ≡ by_key o (keyed_below app keys xs m) r
  low_same m i (Some x) r h = refl
  low_same m i None (read.Expr j) h = let low = h.0 in keyed_is count j (omega (low, i, arith)) ∙ sym (keyed_is m j low)
  low_same m i None (read.Input s) h = refl
  low_same m i None (read.Value s) h = refl
  low_same m i None (read.Status s) h = refl
  low_same m i None (read.Result s) h = refl
  low_same m i None (read.Width k) h = refl
  low_same m i None (read.Height k) h = refl

  key_is : (r : Read) → is_key keys r ≡ true → IsKeyed r
  key_is r h = by_keys (answers_at app values sites n) (keyed_below app keys xs count) r keys xs are (λ no. cc)

  -- an expression without sites, whose reads the keys answer
  expression_is : (m : ℕ) (i : Node) → reader app m ≡ Some i → is_expression i ≡ true → node_sites i ≡ 0 → Every IsKeyed (reads_in_node i) → IsKeyed (read.Expr m)
  expression_is m i is expression bare alike =
      let a : Answers = answers_at app values sites m in
      let inside : m < count = get_in (readers app) m i is in
      let low : Every (IsReadAlike a (keyed m)) (reads_in_node i) =
      every_zip IsKeyed (ReadsBelow app m) (IsReadAlike a (keyed m)) (λ r same below. same ∙ low_same m inside (key_value keys xs r) r below) (reads_in_node i) alike (low_reads app values sites orderly m i is expression) in
      by_keys (answers_at app values sites n) (keyed_below app keys xs count) (read.Expr m) keys xs are (λ no.
      ap (λ (k : Known). k.outcome) (known_fixed app values sites orderly m i is expression)
      ∙ ap (λ o. (evaluate_node o a).outcome) is
      ∙ ap (λ (e : Evaluation). e.outcome) (sym (bare_node a (keyed m) i (orderly.sites m i is) bare low))
      ∙ ap (λ o. (evaluate_node o (keyed m)).outcome) (sym is)
      ∙ sym (keyed_is count m inside))

  keyed_body : (body : Tree) → IsCoveredBody app keys body → outcome_of body (answers_at app values sites n) [] ≡ outcome_of body (keyed count) []
  keyed_body body covered =
      ap (λ (e : Evaluation). e.outcome) (sym (bare_term (answers_at app values sites n) (keyed count) body covered.bare (body_reads IsKeyed app keys key_is expression_is body covered.reads)))

pub covered_body_is_keyed : CoveredBodyIsKeyed
covered_body_is_keyed app well n c cached covered values sites xs h =
    keyed_body app (well_formed_is_orderly app well) values sites n c.keys xs (values_are (answers_at app values sites n) c.keys xs h) c.body (covered_by app c (ap (is_covered_by app) (sym cached) ∙ covered))
    ∙ ap (keyed_by app xs) (sym cached)

pub equal_keys_give_equal : EqualKeysGiveEqual
equal_keys_give_equal app well n c cached covered values values' sites sites' xs h k =
    covered_body_is_keyed app well n c cached covered values sites xs h ∙ sym (covered_body_is_keyed app well n c cached covered values' sites' xs k)
