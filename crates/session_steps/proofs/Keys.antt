-- The keys of a cached reader, and what is evaluated behind them.
use Rattle.std.proofs.Common.{◌≡◌, ◌≤◌, ℕ, List, [], ◌∷◌, ◌++◌, Option, Some, None, Ok, refl, sym, ap, ◌∙◌, subst, arith, append_assoc}
use Rattle.rx_value.specs.declared.value.Value.{Value}
use Rattle.rx_value.specs.declared.value.Value.TheVariants as v
use Rattle.rx_value.specs.declared.outcome.Outcome.{Outcome}
use Rattle.rx_value.specs.declared.outcome.Outcome.TheVariants.{Val, Fail, Stop, Cancel, Running}
use Rattle.app_tree.specs.declared.term.Read.{Read}
use Rattle.app_tree.specs.Tree.{Tree, constant, group, get, variable, isolate, stop, require, fold, unary, binary, choice, call, Trees, no_trees, tree, Node, input, value, task, reactive, event, text, plot, observe, on}
use Rattle.app_tree.specs.Evaluate.{Answers, Evaluation, plain, after, then_by, evaluate, evaluate_all, outcome_of, site_count, site_count_all}
use Rattle.app_tree.specs.Trace.{Every, OfRead, EveryRead}
use Rattle.app_tree.specs.Fresh.{without_reads, rendered, cached, evaluate_node}
use Rattle.app_tree.specs.Keys.{after_key, keys_from, keys_result, keys_evaluation}
use Rattle.app_tree.specs.Cover.{Cached, with_keys, cached_node, reads_in, reads_in_all}
use Rattle.app_laws.specs.AskedLaws.{IsAnsweredAlike}
use Rattle.app_laws.specs.Orderly.{AreNumbered, IsNumberedNode}
use Rattle.app_laws.specs.Recorded.{recorded}
use Rattle.app_laws.proofs.Agreeing.{front, back, term_agrees, terms_agree}
use Rattle.app_laws.proofs.Asking.{IsOfParts, bare_numbered, term_has, terms_have}
use Rattle.app_laws.proofs.CoveredReads.{KeyRead, KeyReads}
use Rattle.app_laws.proofs.WhatIsAsked.{IsAnyRead, any_reads, Covers, covers, recorded-append}
use Rattle.session_laws.proofs.Journeys.{some_is}
use Rattle.session_steps.specs.Keeping.{shown_outcome}

-- no body behind the keys
abbrev pub keys_alone : List Value → Evaluation
keys_alone xs = plain (Val v.Null)

after_assoc : (e f g : Evaluation) → after e (after f g) ≡ after (after e f) g
after_assoc e f g = (λ j. record {
  outcome = g.outcome;
  asked = sym (append_assoc e.asked f.asked g.asked) j;
  outside = sym (append_assoc e.outside f.outside g.outside) j;
})

-- ---- keys that all come to values

module _ (a : Answers) where
  record FirstIs (t : Tree) (more : Trees) (done all : List Value) : Type 0 where
    value : Value
    is : outcome_of t a [] ≡ Val value
    rest : keys_from more a (done ++ value ∷ []) ≡ Ok all

  first_is : (t : Tree) (more : Trees) (done all : List Value) → keys_from (tree t more) a done ≡ Ok all → FirstIs t more done all
  first_is t more done all h = by (outcome_of t a []) refl h
    where
      by : (o : Outcome) → outcome_of t a [] ≡ o → after_key done o (keys_from more a) ≡ Ok all → FirstIs t more done all
      by (Val x) q k = record { value = x; is = q; rest = k }
      by (Fail z) q k = cc
      by Stop q k = cc
      by Cancel q k = cc
      by Running q k = cc

  first_comes : (t : Tree) (more : Trees) (x : Value) (done : List Value) (next : List Value → Evaluation) → outcome_of t a [] ≡ Val x
      → evaluate_all (tree t more) a [] done next ≡ after (evaluate t a []) (evaluate_all more a [] (done ++ x ∷ []) next)
  first_comes t more x done next h = ap (λ z. then_by (evaluate t a []) z (λ y. evaluate_all more a [] (done ++ y ∷ []) next)) h

  all_is : (done all : List Value) → keys_from no_trees a done ≡ Ok all → done ≡ all
  all_is done all h = cc

  -- they are evaluated, and then what comes next
  pub keys_split : (keys : Trees) (done all : List Value) → keys_from keys a done ≡ Ok all → (next : List Value → Evaluation) → evaluate_all keys a [] done next ≡ after (evaluate_all keys a [] done keys_alone) (next all)
  keys_split no_trees done all h next = ap next (all_is done all h)
  keys_split (tree t more) done all h next =
      let f : FirstIs t more done all = first_is t more done all h in
      first_comes t more f.value done next f.is
      ∙ ap (after (evaluate t a [])) (keys_split more (done ++ f.value ∷ []) all f.rest next)
      ∙ after_assoc (evaluate t a []) (evaluate_all more a [] (done ++ f.value ∷ []) keys_alone) (next all)
      ∙ ap (λ e. after e (next all)) (sym (first_comes t more f.value done keys_alone f.is))

  -- by other answers that are alike they come to the same values
  pub keys_same : (b : Answers) (keys : Trees) (done all : List Value) → keys_from keys a done ≡ Ok all → Every (IsAnsweredAlike a b) (evaluate_all keys a [] done keys_alone).asked → keys_from keys b done ≡ Ok all
  keys_same b no_trees done all h k = h
  keys_same b (tree t more) done all h k =
      let f : FirstIs t more done all = first_is t more done all h in
      let both : Every (IsAnsweredAlike a b) ((evaluate t a []).asked ++ (evaluate_all more a [] (done ++ f.value ∷ []) keys_alone).asked) =
      subst (λ (e : Evaluation). Every (IsAnsweredAlike a b) e.asked) (first_comes t more f.value done keys_alone f.is) k in
      ap (λ o. after_key done o (keys_from more b))
      (ap (λ (e : Evaluation). e.outcome) (term_agrees a b t [] (front (IsAnsweredAlike a b) (evaluate t a []).asked (evaluate_all more a [] (done ++ f.value ∷ []) keys_alone).asked both)) ∙ f.is)
      ∙ keys_same b more (done ++ f.value ∷ []) all f.rest (back (IsAnsweredAlike a b) (evaluate t a []).asked (evaluate_all more a [] (done ++ f.value ∷ []) keys_alone).asked both)

  pub keys_agree : (b : Answers) (keys : Trees) → Every (IsAnsweredAlike a b) (keys_evaluation keys a).asked → keys_evaluation keys b ≡ keys_evaluation keys a
  keys_agree b keys = terms_agree a b keys [] [] keys_alone keys_alone (λ ys h. refl)

  -- those that are reads themselves were read
  module _ (Q : Read → Type 0) where
    key_read : (t : Tree) → EveryRead Q (evaluate t a []).asked → KeyRead Q t
    key_read (get r) h = h.0
    key_read (constant x) h = tt
    key_read (group t) h = tt
    key_read (variable n) h = tt
    key_read (isolate s t) h = tt
    key_read (stop t) h = tt
    key_read (require t c) h = tt
    key_read (fold x b c d e) h = tt
    key_read (unary op t) h = tt
    key_read (binary op x b) h = tt
    key_read (choice x b c) h = tt
    key_read (call f ts) h = tt

    pub keys_read : (keys : Trees) (done all : List Value) → keys_from keys a done ≡ Ok all → EveryRead Q (evaluate_all keys a [] done keys_alone).asked → KeyReads Q keys
    keys_read no_trees done all h k = tt
    keys_read (tree t more) done all h k =
        let f : FirstIs t more done all = first_is t more done all h in
        let both : EveryRead Q ((evaluate t a []).asked ++ (evaluate_all more a [] (done ++ f.value ∷ []) keys_alone).asked) =
        subst (λ (e : Evaluation). EveryRead Q e.asked) (first_comes t more f.value done keys_alone f.is) k in (
          key_read t (front (OfRead Q) (evaluate t a []).asked (evaluate_all more a [] (done ++ f.value ∷ []) keys_alone).asked both),
          keys_read more (done ++ f.value ∷ []) all f.rest (back (OfRead Q) (evaluate t a []).asked (evaluate_all more a [] (done ++ f.value ∷ []) keys_alone).asked both),
        )

    -- what is read outside of sites is read
    pub keys_cover : (keys : Trees) → AreNumbered 0 keys → EveryRead Q (keys_evaluation keys a).asked → Every Q (keys_evaluation keys a).outside
    keys_cover keys numbered =
        terms_have a IsAnyRead (Covers a Q) (covers a Q) keys 0 (site_count_all keys) (site_count_all keys) numbered (any_reads (reads_in_all keys)) (omega arith) (omega arith) [] [] keys_alone (λ ys q. tt)

-- ---- a body without a site records nothing

module _ (a : Answers) where
  abbrev RecordsNone : ℕ → ℕ → Evaluation → Type 0
  RecordsNone l h e = h ≤ l → recorded a.site e.asked ≡ []

  records_none : IsOfParts a IsAnyRead RecordsNone
  records_none = record {
    nothing = λ l h x i q. refl;
    reading = λ l h r i q w. refl;
    joined = λ l m h e next i j p k q. recorded-append a.site e.asked next.asked ∙ (λ z. p (omega (i, j, q, arith)) z ++ k (omega (i, j, q, arith)) z);
    wider = λ l h k i e x y p q. p (omega (x, y, q, arith));
    answered = λ n h x i q w. absurd (omega (i, w, arith));
    entered = λ n h e i q p w. absurd (omega (i, w, arith));
  }

  pub bare_records : (t : Tree) → site_count t ≡ 0 → recorded a.site (evaluate t a []).asked ≡ []
  bare_records t none = term_has a IsAnyRead RecordsNone records_none t 0 0 (bare_numbered t 0 none) (any_reads (reads_in t)) (omega (none, arith)) [] (omega arith)

-- ---- cached readers

-- with a plot's last step
abbrev pub shown_evaluation : Option Node → Evaluation → Evaluation
shown_evaluation o e = record e { outcome = shown_outcome o e.outcome }

record WithKeys (keys : Trees) (body : Tree) (c : Cached) : Type 0 where
  key : Tree
  more : Trees
  first : c.keys ≡ tree key more
  keys_are : keys ≡ c.keys
  body_is : body ≡ c.body

with_keys_are : (keys : Trees) (body : Tree) (c : Cached) → with_keys keys body ≡ Some c → WithKeys keys body c
with_keys_are no_trees body c h = cc
with_keys_are (tree key more) body c h =
    let same : record { keys = tree key more; body = body } ≡ c = some_is h in
    record { key = key; more = more; first = sym (ap (λ (x : Cached). x.keys) same); keys_are = ap (λ (x : Cached). x.keys) same; body_is = ap (λ (x : Cached). x.body) same }

pub record IsCachedNode (o : Option Node) (c : Cached) : Type 0 where
  pub key : Tree
  pub more : Trees
  pub first : c.keys ≡ tree key more
  pub node : Node
  pub is : o ≡ Some node
  pub evaluated : (a : Answers) → evaluate_node o a ≡ shown_evaluation o (cached c.keys c.body a)
  pub numbered : IsNumberedNode node → AreNumbered 0 c.keys

pub cached_is : (o : Option Node) (c : Cached) → cached_node o ≡ Some c → IsCachedNode o c
cached_is None c h = cc
cached_is (Some (input name start)) c h = cc
cached_is (Some (value name start)) c h = cc
cached_is (Some (task name parameters body)) c h = cc
cached_is (Some (event name flags e body)) c h = cc
cached_is (Some (observe name priority block)) c h = cc
cached_is (Some (on name priority flags e block)) c h = cc
cached_is (Some (reactive name keys body)) c h =
    let w : WithKeys keys body c = with_keys_are keys body c h in
    record { key = w.key; more = w.more; first = w.first; node = reactive name keys body; is = refl; evaluated = λ a. (λ j. cached (w.keys_are j) (w.body_is j) a); numbered = λ d. subst (AreNumbered 0) w.keys_are d.0 }
cached_is (Some (text name shown)) c h =
    let w : WithKeys shown.keys shown.body c = with_keys_are shown.keys shown.body c h in
    record { key = w.key; more = w.more; first = w.first; node = text name shown; is = refl; evaluated = λ a. (λ j. cached (w.keys_are j) (w.body_is j) a); numbered = λ d. subst (AreNumbered 0) w.keys_are d.0 }
cached_is (Some (plot name shown)) c h =
    let w : WithKeys shown.keys shown.body c = with_keys_are shown.keys shown.body c h in
    record { key = w.key; more = w.more; first = w.first; node = plot name shown; is = refl; evaluated = λ a. (λ j. rendered (cached (w.keys_are j) (w.body_is j) a)); numbered = λ d. subst (AreNumbered 0) w.keys_are d.0 }

-- the keys, and then the body, whose reads don't count
pub node_split : (o : Option Node) (c : Cached) → IsCachedNode o c → (a : Answers) (xs : List Value) → keys_result c.keys a ≡ Ok xs
    → evaluate_node o a ≡ shown_evaluation o (after (keys_evaluation c.keys a) (without_reads (evaluate c.body a [])))
node_split o c n a xs h =
    n.evaluated a
    ∙ ap (shown_evaluation o) (subst (λ ks. cached ks c.body a ≡ evaluate_all ks a [] [] (λ ys. without_reads (evaluate c.body a []))) (sym n.first) refl
    ∙ keys_split a c.keys [] xs h (λ ys. without_reads (evaluate c.body a [])))
