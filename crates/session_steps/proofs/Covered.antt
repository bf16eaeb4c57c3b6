-- What the keys of a cached reader cover: keys, and expressions without a site that read what is covered alone.
use Rattle.std.proofs.Common.{◌≡◌, inl, inr, ◌⊎◌, ◌<◌, ◌≤◌, ℕ, zero, suc, Bool, true, false, List, [], ◌∷◌, Option, Some, None, refl, sym, ap, ◌∙◌, arith}
use Rattle.std.specs.Prelude.{◌==◌, ◌&&◌, ◌||◌}
use Rattle.std.proofs.lemmas.Bool.Decides.{eqb_tells}
use Rattle.app_tree.specs.declared.term.Read.{Read}
use Rattle.app_tree.specs.declared.term.Read.TheVariants as read
use Rattle.app_tree.specs.Tree.{Trees, Node, input, value, task, reactive, event, text, plot, observe, on, Shape}
use Rattle.app_tree.specs.Numbering.{reader, is_expression}
use Rattle.app_tree.specs.Evaluate.{site_count, site_count_all}
use Rattle.app_tree.specs.Trace.{Every}
use Rattle.app_tree.specs.Cover.{reads_in, reads_in_all, is_key, is_covered_read, are_covered, is_covered_term, are_covered_terms, is_covered_node, covered_below}
use Rattle.session_model.specs.Standing.{is_bare}
use Rattle.app_laws.specs.Orderly.{reads_in_node}
use Rattle.app_laws.proofs.Covering.{and_left, and_right}
use Rattle.app_laws.proofs.WhatIsAsked.{both_of, if_true, if_false}

module _ (keys : Trees) where
  -- a key, or an expression that is covered itself
  abbrev pub IsExpressionIn : (ℕ → Bool) → Read → Type 0
  IsExpressionIn covered (read.Expr m) = covered m ≡ true
  IsExpressionIn covered r = ⊥

  abbrev pub IsCovered : (ℕ → Bool) → Read → Type 0
  IsCovered covered r = (is_key keys r ≡ true) ⊎ IsExpressionIn covered r

  either_of : (a b : Bool) → (a || b) ≡ true → (a ≡ true) ⊎ (b ≡ true)
  either_of true b h = inl refl
  either_of false b h = inr h

  covered_read : (covered : ℕ → Bool) (r : Read) → is_covered_read keys covered r ≡ true → IsCovered covered r
  covered_read covered (read.Expr m) h = either_of (is_key keys (read.Expr m)) (covered m) h
  covered_read covered (read.Input s) h = inl h
  covered_read covered (read.Value s) h = inl h
  covered_read covered (read.Status s) h = inl h
  covered_read covered (read.Result s) h = inl h
  covered_read covered (read.Width n) h = inl h
  covered_read covered (read.Height n) h = inl h

  pub covered_reads : (covered : ℕ → Bool) (rs : List Read) → are_covered keys covered rs ≡ true → Every (IsCovered covered) rs
  covered_reads covered [] h = tt
  covered_reads covered (r ∷ rs) h = (covered_read covered r (and_left (is_covered_read keys covered r) (are_covered keys covered rs) h), covered_reads covered rs (and_right (is_covered_read keys covered r) (are_covered keys covered rs) h))

  pub record IsCoveredNode (covered : ℕ → Bool) (o : Option Node) : Type 0 where
    pub node : Node
    pub is : o ≡ Some node
    pub expression : is_expression node ≡ true
    pub bare : is_bare (Some node) ≡ true
    pub reads : Every (IsCovered covered) (reads_in_node node)

  both_true : (a b : Bool) → a ≡ true → b ≡ true → (a && b) ≡ true
  both_true true b h k = k
  both_true false b h k = cc

  covered_node : (covered : ℕ → Bool) (o : Option Node) → is_covered_node keys covered o ≡ true → IsCoveredNode covered o
  covered_node covered None h = cc
  covered_node covered (Some (input name start)) h = cc
  covered_node covered (Some (value name start)) h = cc
  covered_node covered (Some (task name parameters body)) h = cc
  covered_node covered (Some (event name flags e body)) h = cc
  covered_node covered (Some (text name shown)) h = cc
  covered_node covered (Some (plot name shown)) h = cc
  covered_node covered (Some (observe name priority block)) h = cc
  covered_node covered (Some (on name priority flags e block)) h = cc
  covered_node covered (Some (reactive name its body)) h =
      let of_keys : are_covered_terms keys covered its ≡ true = and_left (are_covered_terms keys covered its) (is_covered_term keys covered body) h in
      let of_body : is_covered_term keys covered body ≡ true = and_right (are_covered_terms keys covered its) (is_covered_term keys covered body) h in
      record {
        node = reactive name its body;
        is = refl;
        expression = refl;
        bare = both_true (site_count_all its == 0) (site_count body == 0) (and_left (site_count_all its == 0) (are_covered keys covered (reads_in_all its)) of_keys) (and_left (site_count body == 0) (are_covered keys covered (reads_in body)) of_body);
        reads = both_of (IsCovered covered) (reads_in_all its) (reads_in body)
            (covered_reads covered (reads_in_all its) (and_right (site_count_all its == 0) (are_covered keys covered (reads_in_all its)) of_keys))
            (covered_reads covered (reads_in body) (and_right (site_count body == 0) (are_covered keys covered (reads_in body)) of_body));
      }

  module _ (app : Shape) where
    pub covered_low : (k m : ℕ) → covered_below app keys k m ≡ true → m < k
    covered_low zero m h = cc
    covered_low (suc k) m h = elim (eqb_tells m k) [
      | inl p ↦ (let e = p.1 in omega (e, arith))
      | inr p ↦ (let l = covered_low k m (sym (if_false (m == k) (is_covered_node keys (covered_below app keys k) (reader app k)) (covered_below app keys k m) p.0) ∙ h) in omega (l, arith))
    ]

    -- a bound that is high enough does not matter
    covered_is : (k m : ℕ) → m < k → covered_below app keys k m ≡ is_covered_node keys (covered_below app keys m) (reader app m)
    covered_is zero m h = absurd (omega (h, arith))
    covered_is (suc k) m h = elim (eqb_tells m k) [
      | inl p ↦ if_true (m == k) (is_covered_node keys (covered_below app keys k) (reader app k)) (covered_below app keys k m) p.0
          ∙ ap (λ z. is_covered_node keys (covered_below app keys z) (reader app z)) (sym p.1)
      | inr p ↦ if_false (m == k) (is_covered_node keys (covered_below app keys k) (reader app k)) (covered_below app keys k m) p.0 ∙ covered_is k m (let d = p.1 in omega (h, d, arith))
    ]

    pub covered_at : (k m : ℕ) → covered_below app keys k m ≡ true → IsCoveredNode (covered_below app keys m) (reader app m)
    covered_at k m h = covered_node (covered_below app keys m) (reader app m) (sym (covered_is k m (covered_low k m h)) ∙ h)

    pub covered_up : (k l m : ℕ) → k ≤ l → covered_below app keys k m ≡ true → covered_below app keys l m ≡ true
    covered_up k l m i h = let low = covered_low k m h in covered_is l m (omega (low, i, arith)) ∙ sym (covered_is k m low) ∙ h
